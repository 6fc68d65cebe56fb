-- What contracts see of the two ends of a pipe of copies.
use Rattle.std.specs.Prelude.{ℕ, List}
use Rattle.guards_model.specs.Frames.{CopyValue}
use Rattle.frame_pipe.specs.declared.feed.PipeName.{PipeName}
use Rattle.frame_pipe.specs.declared.feed.Feed.{Feed}
use Rattle.frame_pipe.specs.declared.framer.Framer.{Framer}

-- the name of the pipe, which its two ends have: no two pipes that exist at one time have one name
abbrev pub feed_name : Feed → PipeName
feed_name f = record {
  words = f.producer.end.words;
  slots = f.producer.end.slots;
  names = f.producer.end.names;
  heap = f.producer.end.heap;
}

abbrev pub framer_name : Framer → PipeName
framer_name f = record {
  words = f.consumer.end.words;
  slots = f.consumer.end.slots;
  names = f.consumer.end.names;
  heap = f.consumer.end.heap;
}

-- the copies that were put into the pipe, in order
abbrev pub sent : Feed → List CopyValue
sent f = f.producer.end.past

-- how many copies the pipe takes in all
abbrev pub capacity : Feed → ℕ
capacity f = f.producer.capacity

-- the copies that the framer has, in order
abbrev pub copies_taken : Framer → List CopyValue
copies_taken f = f.copies.items

-- the copies of which the framer knows that they are in the ring
abbrev pub known : Framer → List CopyValue
known f = f.consumer.end.ahead
