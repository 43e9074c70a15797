-- Where one block was read, the listed vertices are those of the held cells; with the closing, the theorem.
use Rattle.std.proofs.Common.{◌≡◌, sym, subst}
use Rattle.std.specs.List.{Contains}
use Rattle.block.specs.Block.{Block}
use Rattle.cell.specs.declared.vertex.Vertex.{Vertex}
use Rattle.kind.specs.Meaning.{Laws}
use Rattle.kind.proofs.Members.{has_map, map_has}
use Rattle.surface.specs.Ledger.{Opening, State, vertices_at, after}
use Rattle.surface.specs.Surface.{Owned, Complete, Theorem}
use Rattle.surface.proofs.Closing.{closed}
use Rattle.surface.proofs.Joined.{has_joined, joined_has}
use Rattle.surface.proofs.Runs.{sound}
use Rattle.surface.proofs.Sound.{Sound, good_on, made_on}

module _ (o : Opening) (laws : Laws o.meaning) (b : Block) (s : State) (ok : Sound (λ a. a ≡ b) o s) where
  -- a piece names a listed vertex, so a held cell has a vertex at its place, which is the same
  to_owned : (v : Vertex) → Contains s.vertices v → Owned o b s v
  to_owned v k =
      let q = (ok.kept.named v.place).0 (has_map (λ u. u.place) s.vertices v k) in
      let h = joined_has (λ g. g.pieces) s.held q.0 q.1 in
      let g = good_on b o s ok h.0 h.1 in
      let w = map_has (λ u. u.place) (vertices_at o b h.0.position) v.place
      ((laws.named b o.level h.0.position v.place g.readable).1 (q.0, subst (λ qs. Contains qs q.0) g.its_pieces h.2, q.2)) in
      let m = made_on b o s ok v k in
      let same : w.0 ≡ v = laws.offsets b o.level h.0.position m.cell w.0 v g.readable m.readable w.1 m.is_its w.2 in
      (h.0, h.1, subst (Contains (vertices_at o b h.0.position)) same w.1)

  -- a piece names a held cell's vertex, so a vertex is listed at its place, which is the same
  from_owned : (v : Vertex) → Owned o b s v → Contains s.vertices v
  from_owned v t =
      let g = good_on b o s ok t.0 t.1 in
      let q = (laws.named b o.level t.0.position v.place g.readable).0 (has_map (λ u. u.place) (vertices_at o b t.0.position) v t.2) in
      let its : Contains t.0.pieces q.0 = subst (λ qs. Contains qs q.0) (sym g.its_pieces) q.1 in
      let u = map_has (λ w. w.place) s.vertices v.place
      ((ok.kept.named v.place).1 (q.0, has_joined (λ h. h.pieces) s.held t.0 q.0 t.1 its, q.2)) in
      let m = made_on b o s ok u.0 u.1 in
      let same : u.0 ≡ v = laws.offsets b o.level m.cell t.0.position u.0 v m.readable g.readable m.is_its t.2 u.2 in
      subst (Contains s.vertices) same u.1

  pub complete : Complete o b s
  complete = record { once = ok.kept.once; exactly = λ v. (to_owned v, from_owned v) }

pub theorem : Theorem
theorem o laws b cs reads =
    let ok = sound (λ a. a ≡ b) o laws cs reads in
    (closed o laws b (after o cs) ok, complete o laws b (after o cs) ok)
