use Rattle.std.proofs.Common.{◌≡◌, ℕ, ◌++◌, List, set, drop, length, refl, ap, ap₂, ◌∙◌, append-nil, arith}
use Rattle.std.proofs.Math.Seq.{drop-length}
use Rattle.card_dump.specs.Dump.{dump_words}
use Rattle.card_dump.proofs.ByteLaws.{read_more}
use Rattle.card_dump.proofs.read_words.Goals as goal

pub loop-i-init : goal.loop-i-init
unfolding dump_words
loop-i-init c = refl

pub loop-i-preserved : goal.loop-i-preserved
loop-i-preserved c =
    let l = c.loop-i in
    ap₂ (λ (x : List ℕ) (w : ℕ). set x l.i w) l.invariant c.word_at.ensures ∙ read_more c.args.dump.now c.args.words.now l.i (omega arith)

pub returns : goal.returns
returns c =
    let whole : c.loop-i.i ≡ length c.args.words.now = omega arith in
    c.loop-i.invariant ∙ ap (λ (k : ℕ). dump_words k c.args.dump.now ++ drop k c.args.words.now) whole
    ∙ ap (λ (x : List ℕ). dump_words (length c.args.words.now) c.args.dump.now ++ x) (drop-length c.args.words.now) ∙ append-nil _
