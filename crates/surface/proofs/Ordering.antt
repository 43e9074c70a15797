-- The same cells have the same vertices and pieces listed.
use Rattle.std.proofs.Common.{◌≡◌, sym, ap, ◌∙◌, subst}
use Rattle.std.specs.List.{Contains}
use Rattle.block.specs.Block.{Block}
use Rattle.cell.specs.declared.vertex.Vertex.{Vertex}
use Rattle.kind.specs.Meaning.{Laws, Piece}
use Rattle.kind.proofs.Members.{has_map, map_has}
use Rattle.surface.specs.Ledger.{Opening, Held, State, positions, pieces_of, vertices_at, pieces_at, after}
use Rattle.surface.specs.Surface.{OrderFree}
use Rattle.surface.proofs.Completing.{complete}
use Rattle.surface.proofs.Joined.{has_joined, joined_has}
use Rattle.surface.proofs.Runs.{sound}
use Rattle.surface.proofs.Sound.{Sound, good_on}

module _ (o : Opening) (laws : Laws o.meaning) (b : Block) (s t : State) (ok : Sound (λ a. a ≡ b) o s) (well : Sound (λ a. a ≡ b) o t) (all : (h : Held) → Contains s.held h → Contains (positions t.held) h.position) where
  -- a cell held in one state is held in the other
  other : (h : Held) → Contains s.held h → (k : Held) × Contains t.held k × (k.position ≡ h.position)
  other h m = map_has (λ k. k.position) t.held h.position (all h m)

  more_vertices : (v : Vertex) → Contains s.vertices v → Contains t.vertices v
  more_vertices v m =
      let own = ((complete o laws b s ok).exactly v).0 m in
      let k = other own.0 own.1 in
      ((complete o laws b t well).exactly v).1 (k.0, k.1, subst (λ c. Contains (vertices_at o b c) v) (sym k.2) own.2)

  more_pieces : (q : Piece) → Contains (pieces_of s.held) q → Contains (pieces_of t.held) q
  more_pieces q m =
      let h = joined_has (λ g. g.pieces) s.held q m in
      let k = other h.0 h.1 in
      let same : h.0.pieces ≡ k.0.pieces = (good_on b o s ok h.0 h.1).its_pieces ∙ ap (pieces_at o b) (sym k.2) ∙ sym (good_on b o t well k.0 k.1).its_pieces in
      has_joined (λ g. g.pieces) t.held k.0 q k.1 (subst (λ qs. Contains qs q) same h.2)

pub order_free : OrderFree
order_free o laws b cs ds reads also same =
    let s = after o cs in
    let t = after o ds in
    let ok = sound (λ a. a ≡ b) o laws cs reads in
    let well = sound (λ a. a ≡ b) o laws ds also in
    let there = λ (h : Held) (m : Contains s.held h). (same h.position).0 (has_map (λ g. g.position) s.held h m) in
    let back = λ (h : Held) (m : Contains t.held h). (same h.position).1 (has_map (λ g. g.position) t.held h m) in (
      λ v. (more_vertices o laws b s t ok well there v, more_vertices o laws b t s well ok back v),
      λ q. (more_pieces o laws b s t ok well there q, more_pieces o laws b t s well ok back q),
    )
