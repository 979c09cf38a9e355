-- WHAT THE PROGRAM `list` LISTS: the map of the card by rising key, from the balanced table that its repair leaves.
use mathlib.Core.Path.{◌≡◌, refl, ap, sym, ◌∙◌}
use mathlib.Core.List.{List}
use mathlib.Core.Bool.{Bool}
use mathlib.Core.Option.{some}
use Prim.Native.Nat.{ℕ, ◌*◌, ◌≤◌}
use native.Mathlib.Omega.{arith}
use lib.ListN.{length}
use Rattle.card.specs.Header.{nodes_of_length}
use Rattle.card.specs.Layout.{key_limit}
use Rattle.laws.specs.Sorting.{sort}
use Rattle.laws.proofs.Sorting.{total_sort}
use Rattle.laws.specs.Totals.{total}
use Rattle.card_check.specs.Counting.{table_counted}
use Rattle.card_family.proofs.FamilyLaws.{Totals, totals_same}
use Rattle.theory_check.proofs.Families.{table_totals}
use Rattle.theory_tree.specs.FreeNodes.{Exact}
use Rattle.card_free.specs.NodeSet.{count_true}
use Rattle.list_pairs.specs.Listing.{most_pairs, Listing, list_card, listed}
use Rattle.list_pairs.proofs.SummaryLaws.{table_sound, card_listed}
use Rattle.call_repair.specs.Repairing.{opened_card}
use Rattle.walk_next.specs.Successor.{walk_from}
use Rattle.theory_next.proofs.SortedWalk.{walk_sorted}
use Rattle.theory_next.proofs.Walk.{walk_rises, walk_lookup, walk_length}
use Rattle.demands.proofs.NextNumber.{rises}
use Rattle.demands.proofs.RepairedCard.{After, repaired}
use Rattle.theory_check.proofs.Rations.{pairs_le}
use Rattle.demands.proofs.Accepting.{not_refused}
use Rattle.demands.specs.Events.{Opens}
use Rattle.demands.specs.RationTable.{ration_table}
use Rattle.demands.specs.W201.{Rises}
use Rattle.demands.proofs.Reopen.{facts_exact}
use Rattle.card_check.specs.Check.{Findings, table_check}
use Rattle.theory_check.proofs.Depth.{well_formed_size}
use Rattle.theory_check.proofs.Facts.{Facts}
use Rattle.theory_check.proofs.Soundness.{sound_accepted}
use Rattle.theory_tree.specs.Pairs.{pairs, lookup}
use Rattle.theory_tree.specs.Height.{Height}
use Rattle.theory_tree.specs.Tree.{Tree}
use Rattle.theory_tree.specs.WellFormed.{WellFormed, Balanced}

-- "N, free nodes, internal levels, pairs. Then key and value", "each pair once, rising": of a balanced table whose map is that of the
-- card listed
pub record ListedRight (greatest : ℕ) (c : List ℕ) (t : Tree) : Type 0 where
  pub listing : Listing
  pub is_listed : list_card greatest c ≡ listed listing
  -- the table on the card as the repair leaves it
  pub table : Tree
  pub balanced : Balanced (opened_card greatest c).card table
  pub all_pairs : listing.pairs ≡ sort (pairs table)
  pub rising : Rises 0 listing.pairs
  -- the map that the card had when it was opened
  pub alike : (key : ℕ) → lookup key listing.pairs ≡ lookup key (pairs t)
  pub as_many : length listing.pairs ≡ length (pairs t)
  pub level : Height listing.levels table
  pub counted : Totals listing.families listing.pairs
  pub nodes : listing.nodes ≡ nodes_of_length greatest (length c)
  -- the free nodes are exactly those that are not reached
  pub unreached : List Bool
  pub exact : Exact (nodes_of_length greatest (length c)) unreached table
  pub free : listing.free ≡ count_true unreached
  pub few_pairs : length listing.pairs ≤ 11 * nodes_of_length greatest (length c)

module _ (greatest : ℕ) (c : List ℕ) (t : Tree) where
  pub listing_right : WellFormed c t → Opens (ration_table greatest) c → ListedRight greatest c t
  listing_right w a = go (repaired greatest c t a w)
    where
      go : After greatest c t → ListedRight greatest c t
      go x = shown (sound_accepted after number x.sized.words x.sized.most x.table sound)
        where
          after : List ℕ
          after = (opened_card greatest c).card

          number : ℕ
          number = nodes_of_length greatest (length c)

          sound : WellFormed after x.table
          sound = x.balanced.well_formed

          held : length (pairs x.table) ≤ 11 * number
          held = omega (arith, pairs_le after x.table sound.holds.2, well_formed_size after number x.sized.words x.table sound)

          enough : length (pairs x.table) ≤ most_pairs
          enough = omega (arith, held, x.sized.most)

          walked : List (ℕ × ℕ)
          walked = walk_from greatest 1 most_pairs after 0

          counted : length walked ≡ length (pairs x.table)
          counted = walk_length greatest after x.table sound x.accepted most_pairs enough

          sorted : walked ≡ sort (pairs x.table)
          sorted = walk_sorted greatest after x.table sound x.accepted most_pairs enough

          all_counted : Totals (table_counted after) (pairs x.table)
          all_counted = table_totals after number x.table x.sized.words x.sized.most sound

          shown : ((h : ℕ) × (f : Findings) × (table_check after number ≡ some (h, f)) × Facts after number x.table h f) → ListedRight greatest c t
          shown (h, f, e, k) =
              record {
                listing = record { nodes = number; free = count_true f.free; levels = h; families = table_counted after; pairs = walked };
                is_listed = card_listed greatest c (not_refused greatest c a) ∙ table_sound greatest after number h f (λ z. omega (arith, x.sized.least)) e;
                table = x.table;
                balanced = x.balanced;
                all_pairs = sorted;
                rising = rises 0 key_limit walked (walk_rises greatest after x.table sound x.accepted most_pairs);
                alike = λ key. walk_lookup greatest after x.table sound x.accepted most_pairs enough key ∙ x.map.alike key;
                as_many = counted ∙ x.map.as_many;
                level = k.level;
                counted = totals_same (table_counted after) (pairs x.table) walked (λ v. sym (ap (total v) sorted ∙ total_sort v (pairs x.table))) all_counted;
                nodes = refl;
                unreached = f.free;
                exact = facts_exact k;
                free = refl;
                few_pairs = omega (arith, counted, held);
              }
