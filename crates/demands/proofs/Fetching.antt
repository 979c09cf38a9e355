-- Document 02, W-213, of the two questions that `call_record` answers.
use mathlib.Core.Path.{◌≡◌, refl, ap, sym, ◌∙◌, subst}
use mathlib.Core.List.{List}
use mathlib.Core.Logic.{◌↔◌, inl, inr, ⊎_elim, by_cases}
use Prim.Native.Nat.{ℕ, ◌+◌, ◌≤◌}
use native.Mathlib.Omega.{arith}
use native.Mathlib.Decide.{ℕ_discrete}
use lib.ListN.{length, get_or, length-take, length-drop}
use borrow.Author.Tests.{eq-eqb, ne_eqb}
use Rattle.demands.specs.Demand1.{ReadsLeaf}
use Rattle.demands.specs.Refusals.{ByRows, find_rows}
use Rattle.demands.specs.W213.{record_rows, NoRecord, IsRecord, AtOffset, ByFind, W213}
use Rattle.demands.specs.RationTable.{ration_table}
use Rattle.demands.proofs.CardRows.{Finds, finds, reads_finds}
use Rattle.demands.proofs.AnswerNumbers.{find_small}
use Rattle.demands.proofs.ReplyLaws.{code_of, found_refused, found_absent, found_value}
use Rattle.demands.proofs.RowLaws.{Numbers, rows_elim, rows_map}
use Rattle.card.specs.Replies.{Reply, refusal, holds, absent, fetched}
use Rattle.laws.proofs.Cases.{order}
use Rattle.call_find.specs.Find.{find_of}
use Rattle.call_find.specs.Found.{Value, Absent as NotHeld, Refused as NoLook}
use Rattle.call_find.specs.Found.{Found}
use Rattle.call_record.proofs.RecordLaws.{refusal_past, refusal_empty, refusal_long, refusal_none}
use Rattle.call_record.specs.Records.{record_refusal, record_at, record_for, record_of, fetched_at, fetched_for, fetch_of, fetch_reply}

-- the two questions, by what the find answers
abbrev part_for : List ℕ → Found → List ℕ
part_for block f = record_for block f

abbrev reply_for : List ℕ → Found → Reply
reply_for block f = fetch_reply (fetched_for block f)

module _ (block : List ℕ) (at : ℕ) where
  refused_at : (r : ℕ) → record_refusal block at ≡ r → (r ≡ 0 → ⊥) → NoRecord (part_for block (Value at)) (reply_for block (Value at)) (refusal r)
  unfolding record_for fetched_for fetched_at fetch_reply
  refused_at r e d = let z = ne_eqb (record_refusal block at) 0 (λ q. d (sym e ∙ q)) in record { told = rw (z, e); empty = rw z }

  module _ (d : get_or block at 0 ≡ 0 → ⊥) (whole : at + 1 + get_or block at 0 ≤ length block) where
    as_long : length (record_at block at) ≡ get_or block at 0
    unfolding record_at
    as_long = simp (length-take, length-drop) (omega arith)

    found_at : IsRecord (part_for block (Value at)) (reply_for block (Value at)) block at
    unfolding record_for fetched_for fetched_at fetch_reply record_at
    found_at =
        let z = eq-eqb (record_refusal block at) 0 (refusal_none block at (omega arith) (get_or block at 0) refl d (omega arith)) in
        record {
          told = rw z;
          whole = whole;
          those_bytes = rw z;
          as_many = rw z as_long;
          least = rw z (omega (arith, as_long));
          most = λ bytes. rw z (omega (arith, as_long, bytes at));
        }

  at_offset : AtOffset (part_for block (Value at)) (reply_for block (Value at)) block at
  unfolding ByRows
  at_offset =
      order at (length block)
      (λ l. inr (
        λ past. omega arith,
        by_cases (ℕ_discrete (get_or block at 0) 0)
            (λ z. inl (inl z, refused_at 24 (refusal_empty block at l (get_or block at 0) refl z) (λ q. omega (arith, q))))
            (λ d. order (length block) (at + 1 + get_or block at 0)
            (λ o. inl (inr (omega arith), refused_at 24 (refusal_long block at l (get_or block at 0) refl d (omega arith)) (λ q. omega (arith, q))))
            (λ o. inr (λ q. ⊎_elim d (λ p. omega arith) q, found_at d o))),
      ))
      (λ past. inl (omega arith, refused_at 23 (refusal_past block at past) (λ z. omega (arith, z))))

-- ---- for every card, key and block

abbrev part : ℕ → List ℕ → ℕ → List ℕ → List ℕ
part greatest c key block = record_of greatest 1 c key block

abbrev reply : ℕ → List ℕ → ℕ → List ℕ → Reply
reply greatest c key block = fetch_reply (fetch_of greatest 1 c key block)

module _ (greatest : ℕ) (c : List ℕ) (key : ℕ) (block : List ℕ) where
  no_look : (r : ℕ) → find_of greatest 1 c key ≡ NoLook r → NoRecord (part greatest c key block) (reply greatest c key block) (refusal r)
  unfolding record_of record_for fetch_of fetched_for fetch_reply
  no_look r e = record { told = rw e; empty = rw e }

  not_held : find_of greatest 1 c key ≡ NotHeld → NoRecord (part greatest c key block) (reply greatest c key block) absent
  unfolding record_of record_for fetch_of fetched_for fetch_reply
  not_held e = record { told = rw e; empty = rw e }

  held_at : (at : ℕ) → find_of greatest 1 c key ≡ Value at → AtOffset (part greatest c key block) (reply greatest c key block) block at
  unfolding record_of fetch_of
  held_at at e = rw e (at_offset block at)

  abbrev Works : Type 0
  Works = ByFind (part greatest c key block) (reply greatest c key block) block ((ration_table greatest).find c key)

  answered : Finds ((ration_table greatest).find c key) → Works
  answered (inl (at, e)) = inr (at, e, held_at at (found_value (find_of greatest 1 c key) at (find_small greatest 1 c key) e))
  answered (inr e) = inl (e, not_held (found_absent (find_of greatest 1 c key) (find_small greatest 1 c key) e))

  looked : ReadsLeaf c key ((ration_table greatest).find c key) → Works
  looked r = answered (subst Finds (sym r.3) (reads_finds key _ _ 0))

  find_numbers : Numbers (find_rows greatest c key)
  find_numbers = (omega arith, (omega arith, (omega arith, (omega arith, (omega arith, tt)))))

  all_answers : ByRows (find_rows greatest c key) (λ r. ((ration_table greatest).find c key ≡ refusal r) × NoRecord (part greatest c key block) (reply greatest c key block) (refusal r)) Works
  all_answers = rows_map (find_rows greatest c key) find_numbers (λ r h e. (e, no_look r (found_refused (find_of greatest 1 c key) r h e))) looked (finds greatest c key)

  -- the two questions agree, by what they answer alone
  none_found : (why : Reply) → NoRecord (part greatest c key block) (reply greatest c key block) why → (why.code ≡ 74 → ⊥)
      → (reply greatest c key block ≡ fetched) ↔ (1 ≤ length (part greatest c key block))
  none_found why n d = (λ e. absurd (d (code_of (sym n.told ∙ e))), λ l. absurd (omega (arith, ap length n.empty)))

  found_is : (reply greatest c key block ≡ fetched) ↔ (1 ≤ length (part greatest c key block))
  found_is = rows_elim (find_rows greatest c key) find_numbers (λ r h n. none_found (refusal r) n.1 (λ z. omega (arith, z))) works all_answers
    where
      works : Works → (reply greatest c key block ≡ fetched) ↔ (1 ≤ length (part greatest c key block))
      works (inl (e, n)) = none_found absent n (λ z. omega (arith, z))
      works (inr (at, e, q)) =
          rows_elim (record_rows block at) (omega arith, (omega arith, tt)) (λ r h n. none_found (refusal r) n (λ z. omega (arith, z)))
          (λ i. (λ z. i.least, λ z. i.told)) q

  absent_is : (reply greatest c key block ≡ absent) ↔ ((ration_table greatest).find c key ≡ absent)
  absent_is =
      rows_elim (find_rows greatest c key) find_numbers
      (λ r h n. neither (refusal r) (refusal r) n.1.told n.0 (λ z. omega (arith, z)) (λ z. omega (arith, z)))
      works all_answers
    where
      neither : (a b : Reply) → reply greatest c key block ≡ a → (ration_table greatest).find c key ≡ b → (a.code ≡ 65 → ⊥) → (b.code ≡ 65 → ⊥)
          → (reply greatest c key block ≡ absent) ↔ ((ration_table greatest).find c key ≡ absent)
      neither a b e f d g = (λ z. absurd (d (code_of (sym e ∙ z))), λ z. absurd (g (code_of (sym f ∙ z))))

      works : Works → (reply greatest c key block ≡ absent) ↔ ((ration_table greatest).find c key ≡ absent)
      works (inl (e, n)) = (λ z. e, λ z. n.told)
      works (inr (at, e, q)) =
          rows_elim (record_rows block at) (omega arith, (omega arith, tt)) (λ r h n. neither (refusal r) (holds at) n.told e (λ z. omega (arith, z)) (λ z. omega (arith, z)))
          (λ i. neither fetched (holds at) i.told e (λ z. omega (arith, z)) (λ z. omega (arith, z))) q

pub w_213 : (greatest : ℕ) → W213 greatest (ration_table greatest) (record_of greatest 1) (λ c key block. fetch_reply (fetch_of greatest 1 c key block))
w_213 greatest = record { answers = all_answers greatest; found_exactly = found_is greatest; absent_exactly = absent_is greatest }
