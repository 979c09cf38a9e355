-- The check of a table accepts exactly the sound tables, and says the truth about them.
use mathlib.Core.Path.{◌≡◌, refl, ap, sym, ◌∙◌}
use mathlib.Core.List.{List}
use mathlib.Core.Bool.{true}
use mathlib.Core.Option.{some}
use mathlib.Core.Logic.{◌↔◌}
use Prim.Native.Nat.{ℕ, ◌+◌, ◌*◌, ◌≤◌}
use lib.ListN.{length, get_or}
use Rattle.card.specs.Layout.{lowest_key, key_limit, greatest_nodes, depth_limit, root_place}
use Rattle.card_check.specs.Check.{Findings, start, node_check, tree_check, table_check}
use Rattle.theory_check.proofs.Facts.{Facts, SoundTable, sound_facts, well_formed_part, part_well_formed}
use Rattle.theory_check.proofs.Found.{found}
use Rattle.theory_check.proofs.Passed.{check_passes}
use Rattle.theory_check.proofs.Shown.{check_shown}
use Rattle.theory_tree.specs.Tree.{Tree, root}
use Rattle.theory_tree.specs.WellFormed.{WellFormed}

table_step : (c : List ℕ) (n : ℕ) → table_check c n ≡ node_check depth_limit c n 0 true lowest_key key_limit (get_or c root_place 0) (start n)
unfolding table_check tree_check
table_step c n = refl

module _ (c : List ℕ) (n : ℕ) (len : length c ≡ 8 + 24 * n) (small : n ≤ greatest_nodes) where
  -- an accepted table is sound
  pub accepts_sound : (h : ℕ) (f : Findings) → table_check c n ≡ some (h, f) → (t : Tree) × WellFormed c t × Facts c n t h f
  accepts_sound h f e =
      let s = check_shown c n len depth_limit 0 true lowest_key key_limit (get_or c root_place 0) (start n) (h, f) (sym (table_step c n) ∙ e) in
      shown s.tree s.is_root_lem s.part s.after
    where
      shown : (t : Tree) → root t ≡ get_or c root_place 0 → SoundTable c n h t → f ≡ found true 0 lowest_key t (start n) → (t : Tree) × WellFormed c t × Facts c n t h f
      shown t r p a = (t, part_well_formed c n h t len (sym r) p, rw a (sound_facts c n h t small p))

  -- a sound table is accepted
  pub sound_accepted : (t : Tree) → WellFormed c t → (h : ℕ) × (f : Findings) × (table_check c n ≡ some (h, f)) × Facts c n t h f
  sound_accepted t w =
      passed w.level.0 w.holds.0 (well_formed_part c n t len small w)
    where
      passed : (h : ℕ) → get_or c root_place 0 ≡ root t → SoundTable c n h t → (h : ℕ) × (f : Findings) × (table_check c n ≡ some (h, f)) × Facts c n t h f
      passed h r p = (
        h,
        found true 0 lowest_key t (start n),
        table_step c n
            ∙ ap (λ (m : ℕ). node_check depth_limit c n 0 true lowest_key key_limit m (start n)) r
            ∙ check_passes c n len depth_limit 0 true lowest_key key_limit h (start n) t p,
        sound_facts c n h t small p,
      )

  -- the two together
  pub accepts_exactly : ((t : Tree) × WellFormed c t) ↔ ((r : ℕ × Findings) × (table_check c n ≡ some r))
  accepts_exactly = (
    λ s. let a = sound_accepted s.0 s.1 in ((a.0, a.1), a.2),
    λ s. let a = accepts_sound s.0.0 s.0.1 s.1 in (a.0, a.1),
  )
