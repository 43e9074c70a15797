-- What the tests of places decide: that two are equal, or that a list has one.
use Rattle.std.proofs.Common.{◌≡◌, Bool, true, false, ◌&&◌, eqb, ◌⊎◌, List, Some, None, Decides, Option, sym, refl, inl, inr, ⊎_elim}
use Rattle.std.specs.List.{Contains}
use Rattle.std.proofs.lemmas.List.Elements.{Decides-contains}
use Rattle.std.proofs.lemmas.Bool.{false≢true, both_ways, cases_Bool, eqb-true, eq-eqb, and_parts, and_from}
use Rattle.std.proofs.lemmas.Bool.Decides.{Decides-by_or}
use Rattle.kind.specs.Meaning.{same_axis, same_form, same_point, same_place, names}
use Rattle.cell.specs.declared.vertex.Axis.{Axis}
use Rattle.cell.specs.declared.vertex.Axis.TheVariants.{X, Y, Z}
use Rattle.cell.specs.declared.vertex.Form.{Form}
use Rattle.cell.specs.declared.vertex.Form.TheVariants.{Edge, Face}
use Rattle.cell.specs.declared.vertex.Place.{Place}
use Rattle.block.specs.declared.lattice.Point.{Point}

same_axis_true : (a b : Option Axis) → same_axis a b ≡ true → a ≡ b
same_axis_true None None t = refl
same_axis_true None (Some b) t = absurd (false≢true t)
same_axis_true (Some a) None t = absurd (false≢true t)
same_axis_true (Some X) (Some X) t = refl
same_axis_true (Some X) (Some Y) t = absurd (false≢true t)
same_axis_true (Some X) (Some Z) t = absurd (false≢true t)
same_axis_true (Some Y) (Some X) t = absurd (false≢true t)
same_axis_true (Some Y) (Some Y) t = refl
same_axis_true (Some Y) (Some Z) t = absurd (false≢true t)
same_axis_true (Some Z) (Some X) t = absurd (false≢true t)
same_axis_true (Some Z) (Some Y) t = absurd (false≢true t)
same_axis_true (Some Z) (Some Z) t = refl

same_axis_self : (a : Option Axis) → same_axis a a ≡ true
same_axis_self None = refl
same_axis_self (Some X) = refl
same_axis_self (Some Y) = refl
same_axis_self (Some Z) = refl

same_form_true : (a b : Option Form) → same_form a b ≡ true → a ≡ b
same_form_true None None t = refl
same_form_true None (Some b) t = absurd (false≢true t)
same_form_true (Some a) None t = absurd (false≢true t)
same_form_true (Some Edge) (Some Edge) t = refl
same_form_true (Some Edge) (Some Face) t = absurd (false≢true t)
same_form_true (Some Face) (Some Edge) t = absurd (false≢true t)
same_form_true (Some Face) (Some Face) t = refl

same_form_self : (a : Option Form) → same_form a a ≡ true
same_form_self None = refl
same_form_self (Some Edge) = refl
same_form_self (Some Face) = refl

-- the three parts of a test `a && b && c`
parts : (a b c : Bool) → (a && b && c) ≡ true → (a ≡ true) × (b ≡ true) × (c ≡ true)
parts a b c t = let u = and_parts (a && b) c t in let v = and_parts a b u.0 in (v.0, v.1, u.1)

from_parts : (a b c : Bool) → a ≡ true → b ≡ true → c ≡ true → (a && b && c) ≡ true
from_parts a b c s t u = and_from (a && b) c (and_from a b s t) u

pub same_point_true : (p q : Point) → same_point p q ≡ true → p ≡ q
same_point_true p q t =
    let u = parts (eqb p.x q.x) (eqb p.y q.y) (eqb p.z q.z) t in
    λ i. record { x = eqb-true p.x q.x u.0 i; y = eqb-true p.y q.y u.1 i; z = eqb-true p.z q.z u.2 i }

pub same_point_self : (p : Point) → same_point p p ≡ true
same_point_self p = from_parts (eqb p.x p.x) (eqb p.y p.y) (eqb p.z p.z) (eq-eqb p.x p.x refl) (eq-eqb p.y p.y refl) (eq-eqb p.z p.z refl)

pub same_place_decides : (p q : Place) → Decides (same_place p q) (p ≡ q)
same_place_decides p q = (equal, λ e. rw (← e) self)
  where
    equal : same_place p q ≡ true → p ≡ q
    equal t =
        let u = parts (same_form p.form q.form) (same_axis p.axis q.axis) (same_point p.point q.point) t in
        λ i. record { form = same_form_true p.form q.form u.0 i; axis = same_axis_true p.axis q.axis u.1 i; point = same_point_true p.point q.point u.2 i }

    self : same_place p p ≡ true
    self = from_parts (same_form p.form p.form) (same_axis p.axis p.axis) (same_point p.point p.point) (same_form_self p.form) (same_axis_self p.axis) (same_point_self p.point)

-- a list of places names a place exactly if it has it
pub names_decides : (ps : List Place) (p : Place) → Decides (names ps p) (Contains ps p)
names_decides ps p =
    Decides-contains ps p (names ps p) (Decides-by_or (λ q. same_place q p) (λ q. q ≡ p) (λ qs. names qs p) (λ q. same_place_decides q p) refl (λ _ _. refl) ps)

-- a list of places has a place or not
pub has_or_not : (ps : List Place) (p : Place) → Contains ps p ⊎ (Contains ps p → ⊥)
has_or_not ps p =
    ⊎_elim (λ h. inl ((names_decides ps p).0 h)) (λ h. inr (λ k. both_ways (names ps p) h ((names_decides ps p).1 k))) (cases_Bool (names ps p))

-- two tests that say the same are equal
pub same_answer : (s t : Bool) → (s ≡ true → t ≡ true) → (t ≡ true → s ≡ true) → s ≡ t
same_answer true t f g = sym (f refl)
same_answer false true f g = absurd (false≢true (g refl))
same_answer false false f g = refl
