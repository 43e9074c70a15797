-- What every state keeps to, and where its cells and vertices came from; an accepted take and a withdrawal keep it.
use Rattle.std.proofs.Common.{◌≡◌, Bool, true, not, ◌⊎◌, List, [], ◌∷◌, ◌++◌, filter, sym, refl, subst, inl, inr, ⊎_elim, arith}
use Rattle.std.specs.List.{Contains}
use Rattle.std.proofs.lemmas.List.Elements.{Contains-append_left, Contains-append_right, Contains-push_cases, Contains-append_cases}
use Rattle.std.proofs.lemmas.List.{length-append, length_push, flat_map_more}
use Rattle.std.proofs.lemmas.List.Sums.{length-filter, count_by-le-length}
use Rattle.std.proofs.lemmas.List.{map-append}
use Rattle.block.specs.Block.{Block}
use Rattle.block.specs.declared.lattice.Point.{Point}
use Rattle.cell.specs.declared.vertex.Place.{Place}
use Rattle.cell.specs.declared.vertex.Vertex.{Vertex}
use Rattle.kind.specs.Meaning.{Laws, Readable, Distinct, Piece, same_point, places_of}
use Rattle.kind.proofs.Members.{has_none, has_cases, has_map, map_has, has_kept, kept_has, distinct_append, distinct_kept}
use Rattle.surface.specs.Ledger.{Opening, Held, State, blank, positions, pieces_of, named_by, fresh, without, still_named, struck, vertices_at, pieces_at, entered}
use Rattle.surface.specs.Kept.{Named, Kept}
use Rattle.surface.proofs.Checks.{Takeable, Fits}
use Rattle.surface.proofs.Fresh.{fresh_own, fresh_once, old_listed, own_listed, listed_cases}
use Rattle.surface.proofs.Joined.{has_joined, joined_has, joined_kept_by}
use Rattle.surface.proofs.Decisions.{named_by_decides}

-- a held cell that can be read on a block, with its pieces there
pub record Good (o : Opening) (b : Block) (h : Held) : Type 0 where
  pub sizes : b.sizes ≡ o.sizes
  pub readable : Readable o.meaning b o.level h.position
  pub its_pieces : h.pieces ≡ pieces_at o b h.position

-- a vertex of a cell that can be read on a block
pub record Made (o : Opening) (b : Block) (v : Vertex) : Type 0 where
  pub cell : Point
  pub readable : Readable o.meaning b o.level cell
  pub is_its : Contains (vertices_at o b cell) v

-- the state is kept, and all of it was read on blocks of which R holds
pub record Sound (R : Block → Type 0) (o : Opening) (s : State) : Type 0 where
  pub kept : Kept o s
  pub read : (h : Held) → Contains s.held h → (b : Block) × R b × Good o b h
  pub made : (v : Vertex) → Contains s.vertices v → (b : Block) × R b × Made o b v

-- where one block was read, all of it is of that block
module _ (b : Block) (o : Opening) (s : State) (ok : Sound (λ a. a ≡ b) o s) where
  pub good_on : (h : Held) → Contains s.held h → Good o b h
  good_on h k = let t = ok.read h k in subst (λ a. Good o a h) t.1 t.2

  pub made_on : (v : Vertex) → Contains s.vertices v → Made o b v
  made_on v k = let t = ok.made v k in subst (λ a. Made o a v) t.1 t.2

pub blank_sound : (R : Block → Type 0) (o : Opening) → Sound R o blank
blank_sound R o = record {
  kept = record {
    cells = λ c h. absurd (has_none c h);
    apart = tt;
    once = tt;
    named = λ p. (λ h. absurd (has_none p h), λ t. absurd (has_none t.0 t.1));
    cells_fit = omega arith;
    vertices_fit = omega arith;
    pieces_fit = omega arith;
  };
  read = λ h k. absurd (has_none h k);
  made = λ v k. absurd (has_none v k);
}

-- the pieces once a cell is entered
pub entered_pieces : (o : Opening) (s : State) (b : Block) (c : Point) → pieces_of (entered o s b c).held ≡ pieces_of s.held ++ pieces_at o b c
entered_pieces o s b c = sym (flat_map_more (λ h. h.pieces) [] s.held (record { position = c; pieces = pieces_at o b c }))

-- what some of more pieces name
named_left : (qs rs : List Piece) (p : Place) → Named qs p → Named (qs ++ rs) p
named_left qs rs p t = (t.0, Contains-append_left qs rs t.0 t.1, t.2)

named_right : (qs rs : List Piece) (p : Place) → Named rs p → Named (qs ++ rs) p
named_right qs rs p t = (t.0, Contains-append_right qs rs t.0 t.1, t.2)

named_cases : (qs rs : List Piece) (p : Place) → Named (qs ++ rs) p → Named qs p ⊎ Named rs p
named_cases qs rs p t = ⊎_elim (λ h. inl (t.0, h, t.2)) (λ h. inr (t.0, h, t.2)) (Contains-append_cases qs rs t.0 t.1)

-- the pieces of some of the held cells name no more
pub named_part : (test : Held → Bool) (hs : List Held) (p : Place) → Named (pieces_of (filter test hs)) p → Named (pieces_of hs) p
named_part test hs p t =
    let j = joined_has (λ h. h.pieces) (filter test hs) t.0 t.1 in
    (t.0, has_joined (λ h. h.pieces) hs j.0 t.0 (kept_has test hs j.0 j.1).0 j.2, t.2)

module _ (R : Block → Type 0) (o : Opening) (laws : Laws o.meaning) (s : State) (ok : Sound R o s) where
  -- A cell is entered.
  module _ (b : Block) (c : Point) (from : R b) (a : Takeable o s b c) (f : Fits o s b c) where
    abbrev entry : Held
    entry = record { position = c; pieces = pieces_at o b c }

    abbrev own : List Vertex
    own = vertices_at o b c

    entry_good : Good o b entry
    entry_good = record { sizes = a.sizes; readable = a.readable; its_pieces = refl }

    entered_positions : positions (s.held ++ entry ∷ []) ≡ positions s.held ++ c ∷ []
    entered_positions = map-append (λ h. h.position) s.held (entry ∷ [])

    entered_cells : (d : Point) → Contains (positions (s.held ++ entry ∷ [])) d → o.meaning.cell o.sizes d ≡ true
    entered_cells d h =
        ⊎_elim (ok.kept.cells d)
        (λ e. subst (λ x. o.meaning.cell o.sizes x ≡ true) e (subst (λ n. o.meaning.cell n c ≡ true) a.sizes a.readable.is_cell))
        (Contains-push_cases (positions s.held) c d (subst (λ ps. Contains ps d) entered_positions h))

    entered_apart : Distinct (positions (s.held ++ entry ∷ []))
    entered_apart =
        rw entered_positions
        (distinct_append (positions s.held) (c ∷ []) ok.kept.apart (has_none c, tt)
        (λ p h k. ⊎_elim (λ e. a.new (subst (Contains (positions s.held)) (sym e) h)) (has_none p) (has_cases c [] p k)))

    -- a listed place is an old one or the cell's own, and so is a named one
    to_named : (p : Place) → Contains (places_of (s.vertices ++ fresh s.vertices own)) p → Named (pieces_of (s.held ++ entry ∷ [])) p
    to_named p h =
        rw (entered_pieces o s b c)
        (⊎_elim (λ old. named_left (pieces_of s.held) (pieces_at o b c) p ((ok.kept.named p).0 old))
        (λ mine. named_right (pieces_of s.held) (pieces_at o b c) p ((laws.named b o.level c p a.readable).0 mine))
        (listed_cases s.vertices own p h))

    from_named : (p : Place) → Named (pieces_of (s.held ++ entry ∷ [])) p → Contains (places_of (s.vertices ++ fresh s.vertices own)) p
    from_named p t =
        ⊎_elim (λ old. old_listed s.vertices own p ((ok.kept.named p).1 old))
        (λ mine. own_listed s.vertices own p ((laws.named b o.level c p a.readable).1 mine))
        (named_cases (pieces_of s.held) (pieces_at o b c) p (subst (λ qs. Named qs p) (entered_pieces o s b c) t))

    entered_kept : Kept o (entered o s b c)
    entered_kept = record {
      cells = entered_cells;
      apart = entered_apart;
      once = fresh_once s.vertices own ok.kept.once (laws.apart b o.level c a.readable);
      named = λ p. (to_named p, from_named p);
      cells_fit = let less = f.cells in omega (arith, length_push s.held entry);
      vertices_fit = let less = f.vertices in omega (arith, length-append s.vertices (fresh s.vertices own));
      pieces_fit = rw (entered_pieces o s b c) (let less = f.pieces in omega (arith, length-append (pieces_of s.held) (pieces_at o b c)));
    }

    pub entered_sound : Sound R o (entered o s b c)
    entered_sound = record {
      kept = entered_kept;
      read = λ h k. ⊎_elim (ok.read h) (λ e. (b, from, subst (Good o b) e entry_good)) (Contains-push_cases s.held entry h k);
      made = λ v k.
          ⊎_elim (ok.made v)
          (λ new. (b, from, record { cell = c; readable = a.readable; is_its = fresh_own s.vertices own v new }))
          (Contains-append_cases s.vertices (fresh s.vertices own) v k);
    }

  -- A cell is struck.
  module _ (c : Point) where
    abbrev other : Held → Bool
    other h = not (same_point h.position c)

    abbrev wanted : Vertex → Bool
    wanted v = named_by (pieces_of (without s.held c)) v.place

    still_to_named : (p : Place) → Contains (places_of (still_named (without s.held c) s.vertices)) p → Named (pieces_of (without s.held c)) p
    still_to_named p h =
        let t = map_has (λ v. v.place) (filter wanted s.vertices) p h in
        subst (Named (pieces_of (without s.held c))) t.2 ((named_by_decides (pieces_of (without s.held c)) t.0.place).0 (kept_has wanted s.vertices t.0 t.1).1)

    still_from_named : (p : Place) → Named (pieces_of (without s.held c)) p → Contains (places_of (still_named (without s.held c) s.vertices)) p
    still_from_named p n =
        let t = map_has (λ v. v.place) s.vertices p ((ok.kept.named p).1 (named_part other s.held p n)) in
        let is : wanted t.0 ≡ true = (named_by_decides (pieces_of (without s.held c)) t.0.place).1 (subst (Named (pieces_of (without s.held c))) (sym t.2) n) in
        subst (Contains (places_of (filter wanted s.vertices))) t.2 (has_map (λ v. v.place) (filter wanted s.vertices) t.0 (has_kept wanted s.vertices t.0 is t.1))

    struck_kept : Kept o (struck s c)
    struck_kept = record {
      cells = λ d h.
          let t = map_has (λ g. g.position) (without s.held c) d h in
          ok.kept.cells d (subst (Contains (positions s.held)) t.2 (has_map (λ g. g.position) s.held t.0 (kept_has other s.held t.0 t.1).0));
      apart = distinct_kept (λ h. h.position) other s.held ok.kept.apart;
      once = distinct_kept (λ v. v.place) wanted s.vertices ok.kept.once;
      named = λ p. (still_to_named p, still_from_named p);
      cells_fit = let less = ok.kept.cells_fit in omega (arith, length-filter other s.held, count_by-le-length other s.held);
      vertices_fit = let less = ok.kept.vertices_fit in omega (arith, length-filter wanted s.vertices, count_by-le-length wanted s.vertices);
      pieces_fit = let less = ok.kept.pieces_fit in omega (arith, joined_kept_by (λ h. h.pieces) other s.held);
    }

    pub struck_sound : Sound R o (struck s c)
    struck_sound = record {
      kept = struck_kept;
      read = λ h k. ok.read h (kept_has other s.held h k).0;
      made = λ v k. ok.made v (kept_has wanted s.vertices v k).0;
    }
