-- What the answers in code say, in the terms of Listing. In code a refusal is an error; `told` says what a result tells. These are
-- definitions.
use Rattle.std.specs.Prelude.{List, ℕ, Result, Ok, Err}
use Rattle.card.specs.Refusals.{number}
use Rattle.card.specs.declared.refusal.Refusal.{Refusal}
use Rattle.card_family.specs.Families.{no_totals}
use Rattle.list_pairs.specs.Listing.{Listed, refused, listed, lay_listed}
use Rattle.list_pairs.specs.declared.Summary.{Summary as Given}

-- "First line: N, free nodes, internal levels, pairs", what each family holds, and how many words of the lent slice hold pairs; or the
-- refusal, which is 0 where there is none
pub record Summary : Type 0 where
  pub refusal : ℕ
  pub nodes : ℕ
  pub free : ℕ
  pub levels : ℕ
  pub families : List ℕ
  pub words : ℕ

unfoldable pub summarized : Listed → ℕ → Summary
summarized (refused r) words = record { refusal = r; nodes = 0; free = 0; levels = 0; families = no_totals; words = words }
summarized (listed l) words = record { refusal = 0; nodes = l.nodes; free = l.free; levels = l.levels; families = l.families; words = words }

unfoldable pub summary_of : Listed → List ℕ → Summary
summary_of l lent = summarized l (lay_listed l lent).at

-- "Refused, it prints `refused ` and the number only."
abbrev pub told : Result Given Refusal → Summary
told (Ok s) = record { refusal = 0; nodes = s.nodes; free = s.free; levels = s.levels; families = s.families; words = s.words }
told (Err r) = record { refusal = number r; nodes = 0; free = 0; levels = 0; families = no_totals; words = 0 }
