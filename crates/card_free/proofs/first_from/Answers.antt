use Rattle.std.proofs.Common.{sym, arith, get_or}
use lib.Bits.{and_le_l}
use Rattle.card_free.proofs.Search.{mask_start, mask_next, masked, passed_start, passed_next, search_found, search_none}
use Rattle.card_free.proofs.first_from.Goals as goal

pub loop-q-init : goal.loop-q-init
loop-q-init c = (mask_start _, passed_start _ _)

pub returns-then-word-ne0 : goal.returns-then-word-ne0
returns-then-word-ne0 c =
    let l = c.loop-q in
    sym (search_found c.args.words.now c.args.a l.q _ (omega arith) (omega arith) (omega (arith, c.type_inv.words l.q, and_le_l (get_or c.args.words.now l.q 0) l.mask)) c.if-word-ne0.true
    (masked _ _ _ _ l.invariant.0) l.invariant.1)

pub loop-q-preserved : goal.loop-q-preserved
loop-q-preserved c =
    let l = c.loop-q in
    (mask_next _ _ (omega arith), passed_next _ _ _ _ (masked _ _ _ _ l.invariant.0) c.if-word-ne0.false l.invariant.1)

pub returns : goal.returns
returns c = sym (search_none c.args.words.now c.args.a c.loop-q.q (omega arith) c.loop-q.invariant.1)
