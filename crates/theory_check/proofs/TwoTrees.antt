-- The check of two lines, one after the other (document 02, W-207: "a sound card has at most one fault and no node in both trees"): the
-- second goes on from what the first has learnt, and the two accept exactly the sound cards.
use mathlib.Core.Path.{◌≡◌, sym, subst, ◌∙◌}
use mathlib.Core.List.{List}
use mathlib.Core.Bool.{true, false}
use mathlib.Core.Option.{Option, some}
use Prim.Native.Nat.{ℕ, suc, ◌+◌, ◌*◌, ◌≤◌}
use native.Mathlib.Omega.{arith}
use lib.ListN.{length, get_or}
use Rattle.card.specs.Layout.{lowest_key, key_limit, greatest_nodes, depth_limit, root_place}
use Rattle.card.specs.Lines.{seen}
use Rattle.card.proofs.LineLaws.{seen_length}
use Rattle.card_check.specs.Check.{Findings, start, tree_check}
use Rattle.laws.proofs.Bits.{bit_le}
use Rattle.laws.specs.Totals.{indicator}
use Rattle.theory_check.proofs.Depth.{represents_upto, well_formed_depth}
use Rattle.theory_check.proofs.Facts.{Learnt, part_learnt, all_free, well_formed_part, part_well_formed}
use Rattle.theory_check.proofs.Found.{found}
use Rattle.theory_check.proofs.Parts.{SoundPart}
use Rattle.theory_check.proofs.Passed.{check_passes}
use Rattle.theory_check.proofs.Ranges.{well_formed_in_range, range_sound}
use Rattle.theory_check.proofs.Shown.{check_shown}
use Rattle.theory_tree.specs.Tree.{Tree, root, node_total}
use Rattle.theory_tree.specs.Violations.{table_violations}
use Rattle.theory_tree.specs.WellFormed.{WellFormed}

-- a line's tree, after what was learnt before it
abbrev pub line_check : ℕ → List ℕ → ℕ → Findings → Option (ℕ × Findings)
line_check line c n f = tree_check (seen line c) n (get_or (seen line c) root_place 0) f

pub record SoundLines (c : List ℕ) (t s : Tree) : Type 0 where
  pub first : WellFormed (seen 1 c) t
  pub second : WellFormed (seen 2 c) s
  -- "no node in both trees"
  pub apart : (i : ℕ) → node_total (indicator i) t + node_total (indicator i) s ≤ 1
  -- "at most one fault"
  pub one_fault : table_violations t + table_violations s ≤ 1

-- what the two checks have learnt
pub record BothLearnt (c : List ℕ) (n : ℕ) (t s : Tree) : Type 0 where
  pub height : ℕ
  pub found_first : Findings
  pub height_second : ℕ
  pub found_both : Findings
  pub passed_first : line_check 1 c n (start n) ≡ some (height, found_first)
  pub passed_second : line_check 2 c n found_first ≡ some (height_second, found_both)
  pub learnt_first : Learnt (start n) t height found_first
  pub learnt_second : Learnt found_first s height_second found_both

module _ (c : List ℕ) (n : ℕ) (len : length c ≡ 8 + 24 * n) (small : n ≤ greatest_nodes) where
  long : (line : ℕ) → length (seen line c) ≡ 8 + 24 * n
  long line = seen_length line c (omega arith) ∙ len

  passes : (line h : ℕ) (f : Findings) (t : Tree) → get_or (seen line c) root_place 0 ≡ root t → SoundPart (seen line c) true lowest_key key_limit h (suc depth_limit) f t
      → line_check line c n f ≡ some (h, found true 0 lowest_key t f)
  unfolding tree_check
  passes line h f t e p = rw e (check_passes (seen line c) n (long line) depth_limit 0 true lowest_key key_limit h f t p)

  -- sound lines are accepted
  pub lines_accepted : (t s : Tree) → SoundLines c t s → BothLearnt c n t s
  lines_accepted t s k =
      record {
        height = k.first.level.0;
        found_first = f;
        height_second = k.second.level.0;
        found_both = found true 0 lowest_key s f;
        passed_first = passes 1 k.first.level.0 (start n) t k.first.holds.0 p;
        passed_second = passes 2 k.second.level.0 f s k.second.holds.0 q;
        learnt_first = l;
        learnt_second = part_learnt (seen 2 c) k.second.level.0 s f q;
      }
    where
      f : Findings
      f = found true 0 lowest_key t (start n)

      p : SoundPart (seen 1 c) true lowest_key key_limit k.first.level.0 (suc depth_limit) (start n) t
      p = well_formed_part (seen 1 c) n t (long 1) small k.first

      l : Learnt (start n) t k.first.level.0 f
      l = part_learnt (seen 1 c) k.first.level.0 t (start n) p

      q : SoundPart (seen 2 c) true lowest_key key_limit k.second.level.0 (suc depth_limit) f s
      q =
          record {
            represents = k.second.holds.2;
            range = well_formed_in_range k.second;
            widths = k.second.widths;
            height = k.second.level.1;
            once_violated = omega (arith, l.violated, k.one_fault);
            free = λ i. omega (
              arith,
              all_free n s small (represents_upto (seen 2 c) n (long 2) s k.second.holds.2) k.second.once i,
              l.free_in i,
              k.apart i,
            );
            deep = omega (arith, well_formed_depth (seen 2 c) n (long 2) s small k.second);
          }

  -- accepted lines are sound
  pub accepted_lines : (h g : ℕ) (f e : Findings) → line_check 1 c n (start n) ≡ some (h, f) → line_check 2 c n f ≡ some (g, e)
      → (t : Tree) × (s : Tree) × SoundLines c t s × Learnt (start n) t h f × Learnt f s g e
  unfolding tree_check
  accepted_lines h g f e a b =
      let x = check_shown (seen 1 c) n (long 1) depth_limit 0 true lowest_key key_limit (get_or (seen 1 c) root_place 0) (start n) (h, f) a in
      let y = check_shown (seen 2 c) n (long 2) depth_limit 0 true lowest_key key_limit (get_or (seen 2 c) root_place 0) f (g, e) b in
      let l : Learnt (start n) x.tree h f =
      subst (λ (z : Findings). Learnt (start n) x.tree h z) (sym x.after) (part_learnt (seen 1 c) h x.tree (start n) x.part) in
      let m : Learnt f y.tree g e =
      subst (λ (z : Findings). Learnt f y.tree g z) (sym y.after) (part_learnt (seen 2 c) g y.tree f y.part) in (
        x.tree,
        y.tree,
        record {
          first = part_well_formed (seen 1 c) n h x.tree (long 1) (sym x.is_root_lem) x.part;
          second = record {
            holds = (sym y.is_root_lem, omega (arith, long 2), y.part.represents);
            once = λ i. omega (arith, y.part.free i, bit_le (get_or f.free i false));
            sound = range_sound lowest_key key_limit y.tree y.part.range;
            widths = y.part.widths;
            level = (g, y.part.height);
            few_violations = omega (arith, y.part.once_violated);
          };
          apart = λ i. omega (arith, y.part.free i, l.free_in i, bit_le (get_or (start n).free i false));
          one_fault = omega (arith, y.part.once_violated, l.violated);
        },
        l,
        m,
      )
