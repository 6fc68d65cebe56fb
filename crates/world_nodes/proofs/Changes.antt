-- A node that is changed twice, and lists of contents that grow by a channel.
use Rattle.std.proofs.Common.{◌≡◌, ℕ, Bool, true, false, cond, List, [], ◌∷◌, ◌++◌, Option, All, filter, filter_map, refl, ap, arith}
use Rattle.std.proofs.lemmas.List.Elements.{filter_map-append, All-tail}
use Rattle.guards_nodes.specs.NodeStates.{RunningValue, StateValue, running, fallen, resting, returning, NodeValue}
use Rattle.guards_nodes.specs.NodeCalls.{in_state, on_running, changed}

on_running_twice : (f g : RunningValue → RunningValue) (state : StateValue) →
    on_running f (on_running g state) ≡ on_running (λ r. f (g r)) state
on_running_twice f g (running r) = refl
on_running_twice f g fallen = refl
on_running_twice f g resting = refl
on_running_twice f g (returning j) = refl

pub changed_twice : (f g : RunningValue → RunningValue) (node : NodeValue) →
    changed f (changed g node) ≡ changed (λ r. f (g r)) node
changed_twice f g node = ap (λ state. in_state state node) (on_running_twice f g node.state)

from_more : {A : Type 0} (f : ℕ → Option A) (rest : List ℕ) (j : ℕ) (there : Bool) →
    filter_map f (cond there (j ∷ rest) rest) ≡ filter_map f (cond there (j ∷ []) []) ++ filter_map f rest
from_more f rest j true = filter_map-append f (j ∷ []) rest
from_more f rest j false = refl

-- what some channels of a set give, from the first of them on
pub contents_more : {A : Type 0} (f : ℕ → Option A) (test : ℕ → Bool) (j : ℕ) (rest : List ℕ) →
    filter_map f (filter test (j ∷ rest)) ≡ filter_map f (filter test (j ∷ [])) ++ filter_map f (filter test rest)
contents_more f test j rest = from_more f (filter test rest) j (test j)

-- what holds of each element holds of the first and of the others
pub all_parts : {A : Type 0} (P : A → Type 0) (x : A) (xs : List A) → All P (x ∷ xs) → P x × All P xs
all_parts P x xs h = (h 0 x (grind arith), All-tail P x xs h)
