use Rattle.std.proofs.Common.{rules, sym, ap, ◌∙◌, [], ◌∷◌, Some}
use Rattle.pixel.proofs.Borders.{only_cut, no_cut, no_second}
use Rattle.pixel.proofs.contour.Contour.cut_of.Goals as goal
use Rattle.pixel.proofs.contour.Contour.cut_of.Goals.{then-n-ne0-via-then-n-ne0, then-n-ne0-via-else-n-ne0+then-not-is_crossed}

pub returns : goal.returns
returns c =
    let e = only_cut c.args.self.now c.args.side c.in_ok-side.side c.in_ok-edge.edge (search rules) (search rules) c.args.n c.if-n-ne0.false (search rules) in
    record { answer = ap (λ p. Some (p ∷ [])) c.on_edge.ensures.answer ∙ sym e }

pub returns-then-n-ne0 : goal.returns-then-n-ne0
returns-then-n-ne0 c = record {
  answer = elim c.then-n-ne0.branch [
    | then-n-ne0-via-then-n-ne0 w ↦ sym (no_second c.args.self.now c.args.side c.in_ok-side.side c.in_ok-edge.edge (search rules) (search rules) c.args.n w.if-n-ne0.true)
    | then-n-ne0-via-else-n-ne0+then-not-is_crossed w ↦ sym (no_cut c.args.self.now c.args.side c.in_ok-side.side c.in_ok-edge.edge (search rules) (search rules) c.args.n (search rules))
  ];
}
