-- With slots for every cell no take is declined for want of slots.
use Rattle.std.proofs.Common.{◌≡◌, ℕ, suc, ◌*◌, ◌<◌, ◌≤◌, Bool, true, false, cond, List, [], ◌∷◌, length, ℤ, Some, None, Ok, Err, Option, Result, sym, ◌∙◌, subst, ⊎_elim, mul-le-mul_right, suc-mul, arith}
use Rattle.std.specs.List.{Contains}
use Rattle.std.proofs.lemmas.List.{length-map}
use Rattle.std.proofs.lemmas.Bool.{lt-leb, le-ltb}
use Rattle.block.specs.Block.{Block}
use Rattle.block.specs.Refusals.{Told}
use Rattle.block.specs.declared.fault.Fault.{Fault}
use Rattle.block.specs.declared.lattice.Point.{Point}
use Rattle.cell.specs.Corner.{answer_declined, corner_declined, corners_declined, height_above}
use Rattle.cell.specs.Level.{on_level}
use Rattle.cell.specs.declared.level.Level.{Level}
use Rattle.kind.specs.Meaning.{Laws, places_of}
use Rattle.kind.proofs.Members.{has_cases}
use Rattle.surface.specs.Ledger.{Opening, Held, State, positions, pieces_of, refused_if, first_refusal, vertices_at, cell_checks, slot_checks, after}
use Rattle.surface.specs.Kept.{Named}
use Rattle.surface.specs.Room.{CellsAtMost, EachAtMost, RoomFor, EnoughRoom}
use Rattle.surface.proofs.Checks.{Takeable, Fits, takeable, some_none, passes, refusal_cases, refusal_is, test_held, test_passed}
use Rattle.surface.proofs.Fresh.{length_fresh}
use Rattle.surface.proofs.Joined.{joined_has, joined_at_most}
use Rattle.surface.proofs.Runs.{Any, always_sound}
use Rattle.surface.proofs.Sound.{Sound}
use Rattle.surface.proofs.Within.{Covered, covered_all, length_within}

-- a refusal that is not for want of slots
abbrev Early : Told → Type 0
Early t = t.number < 12

by_number : (test : Bool) (n : ℕ) (t : Told) → refused_if test n ≡ Some t → n < 12 → Early t
by_number test n t e less = let held = test_held test n t e in let is = held.1 in omega arith

-- a corner's refusal is 10 or 11
one_early : (l : Level) (p : Point) (r : Result ℤ Fault) (t : Told) → answer_declined l p r ≡ Some t → Early t
one_early l p (Err f) t e = let ten : t.number ≡ 10 = cc in omega arith
one_early l p (Ok v) t e = go (on_level (height_above l v)) e
  where
    go : (on : Bool) → cond on (Some (record { number = 11; fault = None; point = Some p })) None ≡ Some t → Early t
    go true e = let eleven : t.number ≡ 11 = cc in omega arith
    go false e = absurd (some_none t (sym e))

corners_early : (b : Block) (l : Level) (ps : List Point) (t : Told) → corners_declined b l ps ≡ Some t → Early t
corners_early b l [] t e = absurd (some_none t (sym e))
corners_early b l (p ∷ ps) t e = go (corner_declined b l p) (one_early l p (b.at p) t) (corners_early b l ps t) e
  where
    then : Option Told → Option Told
    then r = elim r [ Some u ↦ Some u | None ↦ corners_declined b l ps ]

    go : (r : Option Told) → (r ≡ Some t → Early t) → (corners_declined b l ps ≡ Some t → Early t) → then r ≡ Some t → Early t
    go (Some u) here later e = here e
    go None here later e = later e

module _ (o : Opening) (laws : Laws o.meaning) (cells vertices pieces : ℕ) (few : CellsAtMost o.meaning o.sizes cells) (small : EachAtMost o.meaning vertices pieces) (room : RoomFor o.rooms cells vertices pieces) (s : State) (ok : Sound Any o s) where
  -- a held cell's pieces name no more places than the cell has vertices
  own_places : (h : Held) → Contains s.held h → Covered (Named h.pieces) vertices
  own_places h k =
      let t = ok.read h k in
      let own = vertices_at o t.0 h.position in
      let most = small.its_vertices t.0 o.level h.position t.2.readable in
      let fits : length (places_of own) ≤ vertices = omega (arith, length-map own (λ v. v.place)) in
      (places_of own, fits, λ p n. (laws.named t.0 o.level h.position p t.2.readable).1 (subst (λ qs. Named qs p) t.2.its_pieces n))

  -- so no more vertices are listed than the held cells have
  vertices_at_most : length s.vertices ≤ length s.held * vertices
  vertices_at_most =
      let all = covered_all (λ h p. Named h.pieces p) vertices s.held own_places in
      let short = length_within (places_of s.vertices) all.0 ok.kept.once
      (λ p k. let q = (ok.kept.named p).0 k in let h = joined_has (λ g. g.pieces) s.held q.0 q.1 in all.2 p (h.0, h.1, (q.0, h.2, q.2))) in
      let most = all.1 in
      omega (arith, length-map s.vertices (λ v. v.place))

  pieces_at_most : length (pieces_of s.held) ≤ length s.held * pieces
  pieces_at_most =
      joined_at_most (λ h. h.pieces) pieces s.held
      (λ h k. let t = ok.read h k in rw t.2.its_pieces (small.its_pieces t.0 o.level h.position t.2.readable))

  module _ (b : Block) (c : Point) (a : Takeable o s b c) where
    -- the held cells and the new one are different cells
    one_more : suc (length s.held) ≤ cells
    one_more =
        let all : (p : Point) → Contains (c ∷ positions s.held) p → o.meaning.cell o.sizes p ≡ true =
        λ p h. ⊎_elim (λ e. subst (λ d. o.meaning.cell o.sizes d ≡ true) e (subst (λ n. o.meaning.cell n c ≡ true) a.sizes a.readable.is_cell)) (ok.kept.cells p) (has_cases c (positions s.held) p h) in
        let most = few (c ∷ positions s.held) (a.new, ok.kept.apart) all in
        omega (arith, length-map s.held (λ h. h.position))

    all_fit : Fits o s b c
    all_fit =
        let more = one_more in
        let for_cells = room.for_cells in
        let for_vertices = room.for_vertices in
        let for_pieces = room.for_pieces in
        let listed_vertices = vertices_at_most in
        let listed_pieces = pieces_at_most in
        let own_vertices = small.its_vertices b o.level c a.readable in
        let own_pieces = small.its_pieces b o.level c a.readable in
        record {
          cells = omega arith;
          vertices = omega (arith, length_fresh s.vertices (vertices_at o b c), suc-mul (length s.held) vertices, mul-le-mul_right vertices one_more);
          pieces = omega (arith, suc-mul (length s.held) pieces, mul-le-mul_right pieces one_more);
        }

    slots_pass : first_refusal (slot_checks o s b c) ≡ None
    slots_pass =
        let f = all_fit in
        passes (slot_checks o s b c)
        (test_passed _ 12 (lt-leb _ _ f.cells), (test_passed _ 13 (le-ltb _ _ f.vertices), (test_passed _ 14 (le-ltb _ _ f.pieces), tt)))

pub enough_room : EnoughRoom
enough_room o laws cells vertices pieces few small room cs b c t e =
    let s = after o cs in
    ⊎_elim
    (λ early.
    refusal_is Early (cell_checks o s b c)
    (λ u f. by_number _ 6 u f (omega arith), (λ u f. by_number _ 7 u f (omega arith), (λ u f. by_number _ 8 u f (omega arith), (corners_early b o.level (o.meaning.corners c), tt))))
    t (early.1 ∙ early.2))
    (λ late. absurd (some_none t (sym late.1 ∙ slots_pass o laws cells vertices pieces few small room s (always_sound o laws cs) b c (takeable o s b c late.0))))
    (refusal_cases (cell_checks o s b c) (slot_checks o s b c) (Some t) e)
