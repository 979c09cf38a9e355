-- Bench cards I, J, K and L2 on trees without numbers: the functions that show the promise compute.
use mathlib.Core.Path.{◌≡◌, refl}
use Prim.Native.Nat.{ℕ}
use mathlib.Core.List.{[], ◌∷◌}
use mathlib.Core.Bool.{false}
use Rattle.walk.specs.Descent.{first_equal}
use Rattle.laws.specs.Sorting.{insert_pair, insert_all, sort}
use Rattle.change_plan.specs.Change.{half}
use Rattle.theory_lines.proofs.Alike.{refused, answered, refuses, outcome, leaves, shape_left}
use Rattle.demands.proofs.BookLaws.{dictionary_answer}
use Rattle.demands.specs.Book.{put, remove}
use Rattle.demands.proofs.Shapes.{first_shape, after_shape}
use Rattle.theory_shapes.proofs.Need.{leaf_need, need_of, need_in}
use Rattle.theory_shapes.proofs.Next.{mend_leaves, mend_two, siblings_of, mend_at, apart, repaired_by, repaired_in, changed_by, changed_in, put_at, put_in, take_at, take_out}
use Rattle.theory_shapes.proofs.Whole.{settled_by}
use Rattle.state.specs.Answer.{Absent}
use Rattle.theory_tree.specs.Tree.{Tree, leaf, node, one, more}
use Rattle.theory_tree.specs.Violations.{few}

-- S: keys 1 to 11
abbrev eleven : Tree
eleven = leaf 0 (1 ∷ 2 ∷ 3 ∷ 4 ∷ 5 ∷ 6 ∷ 7 ∷ 8 ∷ 9 ∷ 10 ∷ 11 ∷ []) (10 ∷ 20 ∷ 30 ∷ 40 ∷ 50 ∷ 60 ∷ 70 ∷ 80 ∷ 90 ∷ 100 ∷ 110 ∷ [])

-- I: with N = 6 a split, leaves of six under the root, routing key 7
abbrev split : Tree
split =
    node 0 false
    (more (leaf 0 (1 ∷ 2 ∷ 3 ∷ 4 ∷ 5 ∷ 6 ∷ 0 ∷ 0 ∷ 0 ∷ 0 ∷ 0 ∷ []) (10 ∷ 20 ∷ 30 ∷ 40 ∷ 50 ∷ 60 ∷ 0 ∷ 0 ∷ 0 ∷ 0 ∷ 0 ∷ [])) 7
    (one (leaf 0 (7 ∷ 8 ∷ 9 ∷ 10 ∷ 11 ∷ 12 ∷ 0 ∷ 0 ∷ 0 ∷ 0 ∷ 0 ∷ []) (70 ∷ 80 ∷ 90 ∷ 100 ∷ 110 ∷ 120 ∷ 0 ∷ 0 ∷ 0 ∷ 0 ∷ 0 ∷ []))))

card_I : (greatest : ℕ) → (outcome 6 (put 12 120) eleven ≡ answered Absent) × (leaves 6 (put 12 120) eleven ≡ split)
unfolding outcome leaves refuses need_of need_in leaf_need first_equal dictionary_answer after_shape first_shape changed_by changed_in put_in put_at sort insert_all insert_pair settled_by few
card_I greatest = (refl, refl)

-- J: with N = 5, refused 8
card_J : (greatest : ℕ) → outcome 5 (put 12 120) eleven ≡ refused 8
unfolding outcome refuses need_of need_in leaf_need first_equal
card_J greatest = refl

-- K: then delete 1 to 5: 6 to 9 and 10 to 12, routing key 10
abbrev shared : Tree
shared =
    node 0 false
    (more (leaf 0 (6 ∷ 7 ∷ 8 ∷ 9 ∷ 0 ∷ 0 ∷ 0 ∷ 0 ∷ 0 ∷ 0 ∷ 0 ∷ []) (60 ∷ 70 ∷ 80 ∷ 90 ∷ 0 ∷ 0 ∷ 0 ∷ 0 ∷ 0 ∷ 0 ∷ 0 ∷ [])) 10
    (one (leaf 0 (10 ∷ 11 ∷ 12 ∷ 0 ∷ 0 ∷ 0 ∷ 0 ∷ 0 ∷ 0 ∷ 0 ∷ 0 ∷ []) (100 ∷ 110 ∷ 120 ∷ 0 ∷ 0 ∷ 0 ∷ 0 ∷ 0 ∷ 0 ∷ 0 ∷ 0 ∷ []))))

card_K : (greatest : ℕ) → shape_left 6 (remove 1 ∷ remove 2 ∷ remove 3 ∷ remove 4 ∷ remove 5 ∷ []) split ≡ shared
unfolding leaves refuses first_equal after_shape first_shape changed_by changed_in take_out take_at sort insert_all insert_pair settled_by few apart
    repaired_by repaired_in mend_at siblings_of mend_two mend_leaves half
card_K greatest = refl

-- L2: then delete 7, 8, 10, 9: the root is a leaf with 6, 11, 12
card_L2 : (greatest : ℕ) → shape_left 6 (remove 7 ∷ remove 8 ∷ remove 10 ∷ remove 9 ∷ []) shared
    ≡ leaf 0 (6 ∷ 11 ∷ 12 ∷ 0 ∷ 0 ∷ 0 ∷ 0 ∷ 0 ∷ 0 ∷ 0 ∷ 0 ∷ []) (60 ∷ 110 ∷ 120 ∷ 0 ∷ 0 ∷ 0 ∷ 0 ∷ 0 ∷ 0 ∷ 0 ∷ 0 ∷ [])
unfolding leaves refuses first_equal after_shape first_shape changed_by changed_in take_out take_at sort insert_all insert_pair settled_by few apart
    repaired_by repaired_in mend_at siblings_of mend_two mend_leaves half
card_L2 greatest = refl
