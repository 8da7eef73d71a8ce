-- What is met from a node of a forest is a node.
use Rattle.std.proofs.Common.{◌≡◌, ℕ, Bool, List, [], ◌∷◌, Option, Some, None, IfSome, All, filter, find, slice_get, nat_lt, nat_eq}
use Rattle.std.specs.List.{last_or}
use Rattle.std.specs.Option.{option_eq}
use Rattle.std.proofs.lemmas.Bool.{cond_both}
use Rattle.std.proofs.lemmas.List.Elements.{All-filter, All-contains_itself, All-head, All-tail}
use Rattle.vers_trees.specs.Forest.{Forest}
use Rattle.vers_trees.specs.Nodes.{nodes, IsNode, nodes_under, is_proper_ancestor, proper_ancestors, parent, children, siblings, first_of, next_of}

-- of elements that are all such, the first, the one that is found and the last are such
first_such : {X : Type 0} (P : X → Type 0) (xs : List X) → All P xs → IfSome (slice_get xs 0) P
first_such P [] h = tt
first_such P (x ∷ xs) h = All-head P x xs h

found_such : {X : Type 0} (P : X → Type 0) (p : X → Bool) (xs : List X) → All P xs → IfSome (find p xs) P
found_such P p [] h = tt
found_such P p (x ∷ xs) h =
    cond_both (p x) (Some x) (find p xs) (λ o. IfSome o P) (λ _. All-head P x xs h) (λ _. found_such P p xs (All-tail P x xs h))

last_such : {X : Type 0} (P : X → Type 0) (o : Option X) (xs : List X) → IfSome o P → All P xs → IfSome (last_or o xs) P
last_such P o [] s h = s
last_such P o (x ∷ xs) s h = last_such P (Some x) xs (All-head P x xs h) (All-tail P x xs h)

under : (F : Forest) (p : Option ℕ) → All (IsNode F) (nodes_under F p)
unfolding nodes_under
under F p = All-filter (λ v. option_eq nat_eq (parent F v) p) (IsNode F) (nodes F) (All-contains_itself (nodes F))

pub first_child_node : (F : Forest) (v : ℕ) → IfSome (first_of (children F v)) (IsNode F)
first_child_node F v = first_such (IsNode F) (children F v) (under F (Some v))

pub next_sibling_node : (F : Forest) (v : ℕ) → IfSome (next_of (siblings F v) v) (IsNode F)
next_sibling_node F v = found_such (IsNode F) (λ w. nat_lt v w) (siblings F v) (under F (parent F v))

pub parent_node : (F : Forest) (v : ℕ) → IfSome (parent F v) (IsNode F)
unfolding parent
parent_node F v =
    last_such (IsNode F) None (proper_ancestors F v) tt (All-filter (λ a. is_proper_ancestor F a v) (IsNode F) (nodes F) (All-contains_itself (nodes F)))
