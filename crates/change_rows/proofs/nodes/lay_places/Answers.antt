use Rattle.std.proofs.Common.{◌≡◌, refl, ap, ◌∙◌, List, ℕ, ◌+◌, ◌-◌, ◌*◌, ◌++◌, length, set, take, drop, take_all, length-take-le, arith, rules}
use Rattle.change_rows.specs.Nodes.{places_of}
use Rattle.change_rows.proofs.NodeLaws.{length_places_of, places_next, row_linked}
use Rattle.change_rows.proofs.nodes.lay_places.Goals as goal

pub loop-i-init : goal.loop-i-init
unfolding places_of
loop-i-init c = refl

pub loop-i-preserved : goal.loop-i-preserved
loop-i-preserved c =
    let l = c.loop-i in
    let ms = take c.args.count c.args.nodes in
    places_next c.args.places.now l.places c.write_places.new.places ms l.i (24 * l.i + 24 - 24 * l.i)
    c.loop-i-test.true l.invariant (omega arith) c.write_places.ensures

pub returns : goal.returns
returns c =
    let l = c.loop-i in
    let ms = take c.args.count c.args.nodes in
    let len : length c.args.nodes ≡ 3 = search rules in
    let size : length ms ≡ c.args.count = length-take-le c.args.count c.args.nodes (omega (arith, c.requires.1)) in
    let all : l.i ≡ c.args.count = omega arith in
    let front : length (places_of ms) ≡ 24 * c.args.count = length_places_of ms ∙ ap (λ (k : ℕ). 24 * k) size in
    ap (λ (r : List ℕ). set r (24 * c.args.count) c.args.link)
    (l.invariant ∙ ap (λ (k : ℕ). places_of (take k ms) ++ drop (24 * k) c.args.places.now) all
    ∙ ap (λ (x : List ℕ). places_of x ++ drop (24 * c.args.count) c.args.places.now) (take_all c.args.count ms (omega arith)))
    ∙ row_linked c.args.places.now (places_of ms) (24 * c.args.count) c.args.link front (omega (arith, c.requires.0, c.requires.1))
