-- Document 01, "The changes": which change is due, and where. What the new nodes hold is no part of a decision.
use Rattle.std.specs.Prelude.{Bool, ◌&&◌, List, ℕ, suc, ◌+◌, ◌-◌, length, get_or, eqb, ltb, leb}
use Rattle.laws.specs.Cases.{pick}
use Rattle.card.specs.Layout.{root_place, depth_limit, node_at, kind_of, children, leaf_pairs}
use Rattle.walk.specs.Descent.{root_position, seek}
use Rattle.walk.specs.declared.Position.{Position}
use Rattle.walk.specs.declared.Search.{Search}
use Rattle.walk.specs.declared.Search.TheVariants.{Refused as NoSearch, Balanced as SearchBalanced, Violation as SearchViolation}
use Rattle.change_decide.specs.declared.Decision.{Decision}
use Rattle.change_decide.specs.declared.Decision.TheVariants.{Refused, Balanced, Absorb, SplitParent, Share, Merge, MergeRoot}

-- "Tagged node: parent with at most 10 children .. Parent with 11 .."; a tagged node without two children is refused
unfoldable pub decide_tagged : Position → List ℕ → List ℕ → Decision
decide_tagged p parent tagged = pick (eqb (length (children tagged)) 2) (pick (leb (length (children parent)) 10) (Absorb p) (SplitParent p)) Refused

-- "Together 4 or more: shared out .. Together 3 or fewer: merged .. if that parent is the root with 2 children, the merged
-- node becomes the root", by the number of pairs or children together; more than 12 are refused, which two siblings of which
-- one is underfull never have
unfoldable pub decide_together : Position → List ℕ → ℕ → Decision
decide_together p parent count =
    pick (ltb 12 count) Refused
    (pick (leb 4 count) (Share p)
    (pick (eqb p.above root_place && eqb (length (children parent)) 2) (MergeRoot p) (Merge p)))

-- the siblings x and y must be of one kind, and internal ones must have children
unfoldable pub decide_siblings : Position → List ℕ → List ℕ → List ℕ → Decision
decide_siblings p parent x y =
    pick (eqb (kind_of x) 1 && eqb (kind_of y) 1) (decide_together p parent (length (leaf_pairs x) + length (leaf_pairs y)))
    (pick ((eqb (kind_of x) 2 && eqb (kind_of y) 2) && (ltb 0 (length (children x)) && ltb 0 (length (children y))))
    (decide_together p parent (length (children x) + length (children y))) Refused)

-- a node number that is on a card of n nodes
unfoldable pub is_node : ℕ → ℕ → Bool
is_node n m = ltb 0 m && leb m n

-- "sibling is the right one for child 0, else the left one": which child the left one of the two is, and their numbers
abbrev pub left_sibling : Position → ℕ
left_sibling p = p.index - 1

abbrev pub left_number : List ℕ → Position → ℕ
left_number parent p = get_or (children parent) (left_sibling p) 0

abbrev pub right_number : List ℕ → Position → ℕ
right_number parent p = get_or (children parent) (suc (left_sibling p)) 0

-- "Underfull non-root node"; where there is no sibling, or a number is not a node's, the step is refused
unfoldable pub decide_underfull : List ℕ → ℕ → Position → List ℕ → Decision
decide_underfull card n p parent =
    pick (ltb (suc (left_sibling p)) (length (children parent)))
    (pick (is_node n (left_number parent p) && is_node n (right_number parent p))
    (decide_siblings p parent (node_at card (left_number parent p)) (node_at card (right_number parent p))) Refused) Refused

-- the repair of the violation at a position; a parent that is tagged is refused
unfoldable pub decide_at : List ℕ → ℕ → Position → Decision
decide_at card n p =
    pick (eqb (kind_of (node_at card p.parent)) 2)
    (pick (eqb (kind_of (node_at card p.node)) 3)
    (decide_tagged p (node_at card p.parent) (node_at card p.node))
    (decide_underfull card n p (node_at card p.parent))) Refused

unfoldable pub on_search : List ℕ → ℕ → Search → Decision
on_search card n NoSearch = Refused
on_search card n SearchBalanced = Balanced
on_search card n (SearchViolation p) = decide_at card n p

-- "Repairs go on until balanced": the next change of a repair that follows a key
unfoldable pub decided_repair : List ℕ → ℕ → ℕ → Decision
decided_repair card n key = on_search card n (seek card n key depth_limit (root_position (get_or card root_place 0)))
