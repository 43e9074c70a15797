-- Rows of checks, and what a take that passes all of them is known by.
use Rattle.std.proofs.Common.{◌≡◌, ℕ, ◌+◌, ◌<◌, ◌≤◌, Bool, true, false, ◌⊎◌, List, [], ◌∷◌, ◌++◌, length, is_some, Some, None, Option, sym, refl, ap, inl, inr, ⊎_elim}
use Rattle.std.specs.List.{Contains, AllByRecursion}
use Rattle.std.proofs.lemmas.Bool.{false≢true, both_ways, not-false, leb-false, ltb-false}
use Rattle.block.specs.Block.{Block}
use Rattle.block.specs.Refusals.{Told, plain}
use Rattle.block.specs.declared.lattice.Point.{Point}
use Rattle.cell.specs.Corner.{corners_declined}
use Rattle.kind.specs.Meaning.{Readable}
use Rattle.surface.specs.Ledger.{Opening, State, positions, pieces_of, has_position, same_sizes, fresh, refused_if, first_refusal, vertices_at, pieces_at, cell_checks, slot_checks, take_declined}
use Rattle.surface.proofs.Decisions.{has_position_decides, same_sizes_decides}

-- something is not nothing
pub some_none : {X : Type 0} (x : X) → Some x ≡ None → ⊥
some_none x e = false≢true (sym (ap is_some e))

-- a row of checks that refuses nothing has passed each check
pub passed : (xs : List (Option Told)) → first_refusal xs ≡ None → AllByRecursion (λ x. x ≡ None) xs
passed [] e = tt
passed (Some t ∷ xs) e = absurd (some_none t e)
passed (None ∷ xs) e = (refl, passed xs e)

pub passes : (xs : List (Option Told)) → AllByRecursion (λ x. x ≡ None) xs → first_refusal xs ≡ None
passes [] all = refl
passes (x ∷ xs) all = rw all.0 (passes xs all.1)

-- of two rows, the second speaks where the first refuses nothing
pub refusal_cases : (xs ys : List (Option Told)) (r : Option Told) → first_refusal (xs ++ ys) ≡ r → ((t : Told) × (first_refusal xs ≡ Some t) × (Some t ≡ r)) ⊎ ((first_refusal xs ≡ None) × (first_refusal ys ≡ r))
refusal_cases [] ys r e = inr (refl, e)
refusal_cases (Some t ∷ xs) ys r e = inl (t, refl, e)
refusal_cases (None ∷ xs) ys r e = refusal_cases xs ys r e

-- what holds of each refusal that a row can give holds of the one that it gives
pub refusal_is : (P : Told → Type 0) (xs : List (Option Told)) → AllByRecursion (λ x. (t : Told) → x ≡ Some t → P t) xs → (t : Told) → first_refusal xs ≡ Some t → P t
refusal_is P [] all t e = absurd (some_none t (sym e))
refusal_is P (Some u ∷ xs) all t e = all.0 t e
refusal_is P (None ∷ xs) all t e = refusal_is P xs all.1 t e

-- one check
pub test_held : (test : Bool) (n : ℕ) (t : Told) → refused_if test n ≡ Some t → (test ≡ true) × (t.number ≡ n)
test_held true n t e = (refl, cc)
test_held false n t e = absurd (some_none t (sym e))

pub test_failed : (test : Bool) (n : ℕ) → refused_if test n ≡ None → test ≡ false
test_failed true n e = absurd (some_none (plain n) e)
test_failed false n e = refl

pub test_passed : (test : Bool) (n : ℕ) → test ≡ false → refused_if test n ≡ None
test_passed test n e = rw e

-- a take's cell is one of the ledger's sizes, can be read, and is not held
pub record Takeable (o : Opening) (s : State) (b : Block) (c : Point) : Type 0 where
  pub sizes : b.sizes ≡ o.sizes
  pub readable : Readable o.meaning b o.level c
  pub new : Contains (positions s.held) c → ⊥

-- the slots suffice for it
pub record Fits (o : Opening) (s : State) (b : Block) (c : Point) : Type 0 where
  pub cells : length s.held < o.rooms.cells
  pub vertices : length s.vertices + length (fresh s.vertices (vertices_at o b c)) ≤ o.rooms.vertices
  pub pieces : length (pieces_of s.held) + length (pieces_at o b c) ≤ o.rooms.pieces

module _ (o : Opening) (s : State) (b : Block) (c : Point) where
  pub takeable : first_refusal (cell_checks o s b c) ≡ None → Takeable o s b c
  takeable e =
      let checks = passed (cell_checks o s b c) e in
      let same : b.sizes ≡ o.sizes = (same_sizes_decides b.sizes o.sizes).0 (not-false _ (test_failed _ 6 checks.0)) in
      record {
        sizes = same;
        readable = record { is_cell = rw same (not-false _ (test_failed _ 7 checks.1.0)); reads = checks.1.1.1.0 };
        new = λ h. both_ways _ (test_failed _ 8 checks.1.1.0) ((has_position_decides (positions s.held) c).1 h);
      }

  pub fits : first_refusal (slot_checks o s b c) ≡ None → Fits o s b c
  fits e =
      let checks = passed (slot_checks o s b c) e in
      record { cells = leb-false _ _ (test_failed _ 12 checks.0); vertices = ltb-false _ _ (test_failed _ 13 checks.1.0); pieces = ltb-false _ _ (test_failed _ 14 checks.1.1.0) }

  -- an accepted take passes both rows
  pub accepted_take : take_declined o s b c ≡ None → Takeable o s b c × Fits o s b c
  accepted_take e =
      ⊎_elim (λ t. absurd (some_none t.0 t.2)) (λ t. (takeable t.0, fits t.1))
      (refusal_cases (cell_checks o s b c) (slot_checks o s b c) None e)

  -- by which check a take is declined
  pub by_sizes : same_sizes b.sizes o.sizes ≡ false → take_declined o s b c ≡ Some (plain 6)
  by_sizes e = rw e

  pub by_cell : same_sizes b.sizes o.sizes ≡ true → o.meaning.cell o.sizes c ≡ false → take_declined o s b c ≡ Some (plain 7)
  by_cell e f = rw (e, f)

  pub by_held : same_sizes b.sizes o.sizes ≡ true → o.meaning.cell o.sizes c ≡ true → has_position (positions s.held) c ≡ true → take_declined o s b c ≡ Some (plain 8)
  by_held e f g = rw (e, f, g)

  pub by_corners : (t : Told) → same_sizes b.sizes o.sizes ≡ true → o.meaning.cell o.sizes c ≡ true → has_position (positions s.held) c ≡ false → corners_declined b o.level (o.meaning.corners c) ≡ Some t → take_declined o s b c ≡ Some t
  by_corners t e f g h = rw (e, f, g, h)

  pub by_slots : same_sizes b.sizes o.sizes ≡ true → o.meaning.cell o.sizes c ≡ true → has_position (positions s.held) c ≡ false → corners_declined b o.level (o.meaning.corners c) ≡ None → take_declined o s b c ≡ first_refusal (slot_checks o s b c)
  by_slots e f g h = rw (e, f, g, h)
