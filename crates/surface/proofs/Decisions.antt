-- What the tests of positions, places and sizes decide.
use Rattle.std.proofs.Common.{◌≡◌, Bool, false, ◌&&◌, eqb, List, [], get_or, Decides, sym, refl, subst, ⊎_elim}
use Rattle.std.specs.List.{Contains}
use Rattle.std.proofs.lemmas.List.Elements.{Decides-contains, at_from_Contains, Contains-get_or}
use Rattle.std.proofs.lemmas.Bool.{cases_Bool}
use Rattle.std.proofs.lemmas.Bool.Decides.{Decides-and, Decides-by_or, Decides-eqb, Decides-like}
use Rattle.block.specs.declared.lattice.Point.{Point}
use Rattle.block.specs.declared.lattice.Sizes.{Sizes}
use Rattle.cell.specs.declared.vertex.Place.{Place}
use Rattle.kind.specs.Meaning.{Piece, names, same_point}
use Rattle.kind.proofs.Places.{same_point_true, same_point_self, names_decides}
use Rattle.surface.specs.Ledger.{has_position, named_by, same_sizes}
use Rattle.surface.specs.Kept.{Named}

-- a test is false where what it decides is
pub refuted : {P : Type 0} {r : Bool} → Decides r P → (P → ⊥) → r ≡ false
refuted {P} {r} decides no_p = ⊎_elim (λ t. absurd (no_p (decides.0 t))) (λ f. f) (cases_Bool r)

pub same_point_decides : (p q : Point) → Decides (same_point p q) (p ≡ q)
same_point_decides p q = (same_point_true p q, λ e. rw (← e) (same_point_self p))

pub has_position_decides : (ps : List Point) (c : Point) → Decides (has_position ps c) (Contains ps c)
has_position_decides ps c =
    Decides-contains ps c (has_position ps c) (Decides-by_or (λ p. same_point p c) (λ p. p ≡ c) (λ qs. has_position qs c) (λ p. same_point_decides p c) refl (λ _ _. refl) ps)

pub same_sizes_decides : (m n : Sizes) → Decides (same_sizes m n) (m ≡ n)
same_sizes_decides m n =
    Decides-like (same_sizes m n)
    (λ t i. record { x = t.0.0 i; y = t.0.1 i; z = t.1 i })
    (λ e. ((λ i. (e i).x, λ i. (e i).y), λ i. (e i).z))
    (Decides-and (eqb m.x n.x && eqb m.y n.y) (eqb m.z n.z)
    (Decides-and (eqb m.x n.x) (eqb m.y n.y) (Decides-eqb m.x n.x) (Decides-eqb m.y n.y))
    (Decides-eqb m.z n.z))

pub named_by_decides : (qs : List Piece) (p : Place) → Decides (named_by qs p) (Named qs p)
named_by_decides qs p =
    Decides-like (named_by qs p)
    (λ t. (get_or qs t.0 [], Contains-get_or qs t.0 [] t.1, t.2 []))
    (λ t. let at = at_from_Contains qs t.0 t.1 in (at.0, at.1, λ d. subst (λ q. Contains q p) (sym (at.2 d)) t.2))
    (Decides-by_or (λ q. names q p) (λ q. Contains q p) (λ rs. named_by rs p) (λ q. names_decides q p) refl (λ _ _. refl) qs)
