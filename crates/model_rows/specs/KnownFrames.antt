-- Frames with their bytes, and bytes that are no frame.
use Rattle.std.specs.Prelude.{ℕ, List, [], ◌∷◌, ◌++◌, Some, None, pos, codes, replicate}
use Rattle.guards_model.specs.declared.Law.TheVariants.{Multiply, Subtract}
use Rattle.guards_model.specs.Missions.{FormatValue}
use Rattle.guards_model.specs.Frames.{SourceValue, FrameValue, request_body, exchange_body, vote_body, final_body, switch_body}
use Rattle.model_rows.specs.Worked.{hex}

-- what a channel with one word brings that accuses nobody and heard nothing
abbrev pub word_alone : ℕ → SourceValue
word_alone word = record { words = pos word ∷ []; accuse = []; heard = replicate 7 0 }

-- the frame of round 1 with this word, in cycle 0
abbrev pub round1_frame : ℕ → ℕ → FrameValue
round1_frame sender word =
    record {
      version = 1;
      sender = sender;
      cycle = 0;
      body = exchange_body (record { round = 1; items = record { path = []; word = Some (word_alone word) } ∷ [] });
    }

-- a final frame of channel 0 to channel 4 without copies, in version 2 under the law of subtraction
abbrev pub final_frame : FrameValue
final_frame =
    record {
      version = 2;
      sender = 0;
      cycle = 5;
      body = final_body
          (record {
            target = 4;
            start = 3;
            copies = [];
            control = record {
              law = Subtract;
              active = 0 ∷ 1 ∷ 2 ∷ 3 ∷ 4 ∷ [];
              fresh = 4 ∷ [];
              counts = replicate 7 0;
            };
          });
    }

-- its bytes, where so many bytes of counts follow the masks; 28 are right
abbrev pub final_bytes : ℕ → List ℕ
final_bytes zeros = hex (codes "4702050000000005040000000300021f10") ++ replicate zeros 0

-- channel 4's request of cycle 1, with nothing held
abbrev pub request_frame : ℕ → FrameValue
request_frame version = record { version = version; sender = 4; cycle = 1; body = request_body None }

-- frames with their bytes
abbrev pub known_frames : List (List ℕ × FrameValue)
known_frames =
    (hex (codes "470101040000000100"), request_frame 1) ∷
    (hex (codes "470201040000000100"), request_frame 2) ∷ (
      hex (codes "47010104000000040100000003"),
      record { version = 1; sender = 4; cycle = 4; body = request_body (Some 3) },
    ) ∷
    (hex (codes "4701020300000000010101010000000000000009000000"), round1_frame 3 9) ∷
    (hex (codes "4701020600000000010101010000000000000064000000"), round1_frame 6 100) ∷ (
      hex (codes "470103000000000101000000000000000a"),
      record { version = 1; sender = 0; cycle = 1; body = vote_body (pos 10 ∷ []) },
    ) ∷ (
      hex (codes "47010602000000010e"),
      record { version = 1; sender = 2; cycle = 1; body = switch_body (1 ∷ 2 ∷ 3 ∷ []) },
    ) ∷
    (final_bytes 28, final_frame) ∷ []

-- bytes that are no frame: none at all, a first byte that is not `G`, version 3, a byte for the start that is neither 0
-- nor
-- 1, a byte too many, one too few, a mask with bit 7, no words, and one label twice
abbrev pub no_frames : List (List ℕ)
no_frames =
    [] ∷
    hex (codes "460101040000000100") ∷
    hex (codes "470301040000000100") ∷
    hex (codes "47010104000000010200000003") ∷
    hex (codes "47010104000000010000") ∷
    hex (codes "470101040000000401000000") ∷
    hex (codes "47010602000000018e") ∷
    hex (codes "470103000000000100") ∷
    hex (codes "4701020300000000020200000000") ∷
    final_bytes 23 ∷
    final_bytes 29 ∷ []

-- what frames of one block and one output are judged by, in a version and under the law of multiplication
abbrev pub format_in : ℕ → FormatValue
format_in version = record { version = version; law = Multiply; blocks = 8; outputs = 1 }
