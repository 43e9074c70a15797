-- A cell that is taken and at once withdrawn leaves the lists as they were.
use Rattle.std.proofs.Common.{◌≡◌, not, List, [], ◌∷◌, ◌++◌, sym, ap, ◌∙◌, subst, ⊎_elim}
use Rattle.std.specs.List.{Contains}
use Rattle.std.proofs.lemmas.List.Elements.{Contains-push}
use Rattle.std.proofs.lemmas.Bool.{not_from_true, not_from_false}
use Rattle.block.specs.Block.{Block}
use Rattle.block.specs.declared.lattice.Point.{Point}
use Rattle.cell.specs.declared.vertex.Vertex.{Vertex}
use Rattle.kind.specs.Meaning.{same_point}
use Rattle.kind.proofs.Members.{has_none, has_cases, has_map}
use Rattle.surface.specs.Ledger.{Opening, take_cell, withdraw_cell, Held, State, blank, positions, pieces_of, named_by, fresh, without, still_named, struck, vertices_at, pieces_at, entered, step, after}
use Rattle.surface.specs.Changes.{Undone}
use Rattle.surface.specs.Kept.{Kept}
use Rattle.surface.proofs.Checks.{Takeable, accepted_take, test_passed}
use Rattle.surface.proofs.Decisions.{refuted, same_point_decides, has_position_decides, named_by_decides}
use Rattle.surface.proofs.Filtered.{kept_front}
use Rattle.surface.proofs.Fresh.{fresh_apart}
use Rattle.surface.proofs.Runs.{accepted_call, after_append, always_sound}

module _ (o : Opening) (s : State) (ok : Kept o s) (b : Block) (c : Point) (a : Takeable o s b c) where
  abbrev entry : Held
  entry = record { position = c; pieces = pieces_at o b c }

  abbrev new : List Vertex
  new = fresh s.vertices (vertices_at o b c)

  -- the cell goes: no other is at its position
  same_held : without (s.held ++ entry ∷ []) c ≡ s.held
  same_held =
      kept_front (λ h. not (same_point h.position c)) s.held (entry ∷ [])
      (λ h k. not_from_false _ (refuted (same_point_decides h.position c) (λ e. a.new (subst (Contains (positions s.held)) e (has_map (λ g. g.position) s.held h k)))))
      (λ h k. not_from_true _ ((same_point_decides h.position c).1 (⊎_elim (λ e. ap (λ g. g.position) (sym e)) (λ z. absurd (has_none h z)) (has_cases entry [] h k))))

  -- its vertices go: no piece of another names them
  same_vertices : still_named s.held (s.vertices ++ new) ≡ s.vertices
  same_vertices =
      kept_front (λ v. named_by (pieces_of s.held) v.place) s.vertices new
      (λ v k. (named_by_decides (pieces_of s.held) v.place).1 ((ok.named v.place).0 (has_map (λ u. u.place) s.vertices v k)))
      (λ v k. refuted (named_by_decides (pieces_of s.held) v.place)
      (λ n. fresh_apart s.vertices (vertices_at o b c) v.place ((ok.named v.place).1 n) (has_map (λ u. u.place) new v k)))

  struck_entered : struck (entered o s b c) c ≡ s
  struck_entered = λ i. record { held = same_held i; vertices = (ap (λ hs. still_named hs (s.vertices ++ new)) same_held ∙ same_vertices) i }

pub undone : Undone
undone o laws cs b c e =
    let s = after o cs in
    let t = entered o s b c in
    let took = (accepted_call o s (take_cell b c) e).1 in
    let held : Contains (positions t.held) c = has_map (λ h. h.position) t.held (record { position = c; pieces = pieces_at o b c }) (Contains-push s.held (record { position = c; pieces = pieces_at o b c })) in
    let struck_again = (accepted_call o t (withdraw_cell c) (test_passed _ 9 (not_from_true _ ((has_position_decides (positions t.held) c).1 held)))).1 in
    after_append o blank cs (take_cell b c ∷ withdraw_cell c ∷ [])
    ∙ ap (λ u. step o u (withdraw_cell c)) took
    ∙ struck_again
    ∙ struck_entered o s (always_sound o laws cs).kept b c (accepted_take o s b c e).0
