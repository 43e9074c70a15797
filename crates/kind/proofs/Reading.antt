-- A position that is not declined is a cell that can be read, and its corners are off the level.
use Rattle.std.proofs.Common.{◌≡◌, ℕ, Bool, true, false, cond, List, [], ◌∷◌, ℤ, Some, None, Ok, Err, Option, Result, refl, arith}
use Rattle.std.specs.List.{All}
use Rattle.std.proofs.lemmas.List.Elements.{All-nil, All-cons}
use Rattle.block.specs.Block.{Block}
use Rattle.block.specs.Refusals.{Told, told}
use Rattle.block.specs.declared.fault.Fault.{Fault}
use Rattle.block.specs.declared.lattice.Point.{Point}
use Rattle.block.specs.declared.refusal.Refusal.TheVariants.{NoCell, Faulty, OnLevel}
use Rattle.cell.specs.Corner.{answer_declined, answer_height, corner_declined, corner_height, corners_declined, height_above}
use Rattle.cell.specs.Level.{on_level}
use Rattle.cell.specs.declared.level.Level.{Level}
use Rattle.kind.specs.Meaning.{Meaning, Readable, cell_declined}

passed : (t : Bool) (o : Option Told) (n : Told) → cond t o (Some n) ≡ None → (t ≡ true) × (o ≡ None)
passed true o n e = (refl, e)
passed false o n e = absurd (let z : ◌≡◌ {A = ℕ} 0 1 = cc in omega arith)

pub readable : (m : Meaning) (b : Block) (l : Level) (c : Point) → cell_declined m b l c ≡ None → Readable m b l c
readable m b l c e = let p = passed (m.cell b.sizes c) (corners_declined b l (m.corners c)) (told NoCell) e in record { is_cell = p.0; reads = p.1 }

-- ---- corners that serve are off the level
some_none : {T : Type 0} (t : T) → Some t ≡ None → ⊥
some_none t e = let z : ◌≡◌ {A = ℕ} 0 1 = cc in omega arith

untold : {A : Type 0} (t : Bool) (x : A) → cond t (Some x) None ≡ None → t ≡ false
untold true x e = absurd (some_none x e)
untold false x e = refl

serves_off : (l : Level) (at : Point) (a : Result ℤ Fault) → answer_declined l at a ≡ None → on_level (answer_height l a) ≡ false
serves_off l at (Err f) h = absurd (some_none (told (Faulty f)) h)
serves_off l at (Ok v) h = untold (on_level (height_above l v)) (told (OnLevel at)) h

-- the refusal of the first corner, and that of the rest
pub both_none : (o rest : Option Told) → ◌≡◌ {A = Option Told} (elim o [ Some t ↦ Some t | None ↦ rest ]) None → (o ≡ None) × (rest ≡ None)
both_none None rest h = (refl, h)
both_none (Some t) rest h = absurd (some_none t h)

-- the corner at a place is off the level
abbrev pub IsOff : Block → Level → Point → Type 0
IsOff b l p = on_level (corner_height b l p) ≡ false

pub all_off : (b : Block) (l : Level) (ps : List Point) → corners_declined b l ps ≡ None → All (IsOff b l) ps
all_off b l [] h = All-nil (IsOff b l)
all_off b l (p ∷ ps) h =
    let k = both_none (corner_declined b l p) (corners_declined b l ps) h in
    All-cons (IsOff b l) p ps (serves_off l p (b.at p) k.0) (all_off b l ps k.1)
