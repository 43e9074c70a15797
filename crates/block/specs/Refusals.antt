-- What each refusal tells: its number, and the fault or the point that it carries.
use Rattle.std.specs.Prelude.{◌≡◌, ℕ, List, ◌++◌, Some, None, Ok, Err, Option, Result, codes, decimal}
use Rattle.block.specs.declared.fault.Fault.{Fault}
use Rattle.block.specs.declared.lattice.Point.{Point}
use Rattle.block.specs.declared.refusal.Refusal.{Refusal}
use Rattle.block.specs.declared.refusal.Refusal.TheVariants.{RasterSize, Length, SpareBit, Window, Level, NoCell, Faulty, OnLevel}

pub record Told : Type 0 where
  pub number : ℕ
  pub fault : Option Fault
  pub point : Option Point

abbrev pub plain : ℕ → Told
plain n = record { number = n; fault = None; point = None }

abbrev pub told : Refusal → Told
told RasterSize = plain 1
told Length = plain 2
told SpareBit = plain 3
told Window = plain 4
told Level = plain 5
told NoCell = plain 7
told (Faulty f) = record { number = 10; fault = Some f; point = None }
told (OnLevel p) = record { number = 11; fault = None; point = Some p }

-- the text of a refusal: declined 7
abbrev pub text_of : Refusal → List ℕ
text_of r = codes "declined " ++ decimal (told r).number

-- the outcome of a call: where the rules decline it, what they tell; else an answer of which P holds
abbrev pub Outcome : {A : Type 0} → Option Told → (A → Type 0) → Result A Refusal → Type 0
Outcome declined P (Ok x) = (declined ≡ None) × P x
Outcome declined P (Err e) = declined ≡ Some (told e)

-- the first of two refusals, if any
abbrev pub or_else : Option Told → Option Told → Option Told
or_else (Some t) u = Some t
or_else None u = u
