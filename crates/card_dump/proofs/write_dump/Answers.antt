use Rattle.std.proofs.Common.{◌≡◌, ℕ, ◌++◌, List, drop, length, sym, ap, ◌∙◌, arith}
use Rattle.std.proofs.lemmas.Result.{err_from_is_err_and}
use Rattle.card_dump.specs.Dump.{fitting_length, write_answer}
use Rattle.card_dump.proofs.AnswerLaws.{refusal_some, write_refuses, write_good, room_short, room_long, write_bytes, write_refused}
use Rattle.card_dump.proofs.write_dump.Goals as goal
use Rattle.card_dump.proofs.write_dump.Goals.{After-padded_length-size}

-- past the first test the answer is as the lent slice's room says
answer : (c : After-padded_length-size)
    → write_answer c.args.greatest c.args.card.now (length c.args.bytes.now) ≡ fitting_length c.padded_length-size.result (length c.args.bytes.now)
answer c =
    write_good _ _ _ (sym c.in_ok-checked_nodes.ensures.refused)
    ∙ ap (λ (k : ℕ). fitting_length k (length c.args.bytes.now)) (sym c.padded_length-size.ensures)

pub returns-in_err-checked_nodes : goal.returns-in_err-checked_nodes
returns-in_err-checked_nodes c =
    let p = err_from_is_err_and c.from_residual.result c.from_residual.ensures.1 in
    let e = write_refuses _ c.args.card.now (length c.args.bytes.now) _ (sym c.in_err-checked_nodes.ensures.refused) (refusal_some c.in_err-checked_nodes.field-0.0) in
    rw (p.1, p.2) (record { value = sym e; bytes_after = sym (write_refused _ _ _ _ e) })

pub returns-then-bytes-size : goal.returns-then-bytes-size
returns-then-bytes-size c =
    let e = answer (goal.at.returns-then-bytes-size c).After-padded_length-size ∙ room_short _ _ c.if-bytes-size.true in
    record { value = sym e; bytes_after = sym (write_refused _ _ _ 12 e) }

pub returns : goal.returns
returns c =
    let e = answer (goal.at.returns c).After-padded_length-size ∙ room_long c.padded_length-size.result _ (omega arith) in
    record {
      value = sym e;
      bytes_after = ap (λ (l : List ℕ). l ++ drop c.padded_length-size.result c.args.bytes.now) c.write_padded.ensures ∙ sym (write_bytes _ _ _ _ e);
    }
