-- The thread keeps the laws of kinds.
use Rattle.std.specs.Prelude.{◌≡◌, ℕ, true, cond, ◌&&◌, ◌⊎◌, ◌↔◌, [], ◌∷◌, count_by, ◌≢◌, refl}
use Rattle.std.proofs.Common.{sym, ap, subst, ◌∙◌, inl, inr, ⊎_elim, arith}
use Rattle.std.specs.List.{Contains}
use Rattle.std.proofs.lemmas.Bool.{and_parts}
use Rattle.block.specs.Block.{Block}
use Rattle.block.specs.declared.lattice.Point.{Point}
use Rattle.cell.specs.declared.level.Level.{Level}
use Rattle.cell.specs.declared.vertex.Place.{Place}
use Rattle.cell.specs.declared.vertex.Side.{Side}
use Rattle.cell.specs.declared.vertex.Vertex.{Vertex}
use Rattle.kind.specs.Meaning.{Laws, Piece, Joint, Odd, IsJoint, SameJoint, CutOf, CutOfCell, names, on}
use Rattle.kind.proofs.Counts.{counted, count_cons}
use Rattle.kind.proofs.Members.{has_none, has_here, has_there, has_cases}
use Rattle.kind.proofs.Places.{names_decides}
use Rattle.thread.specs.Thread.{thread, knot, knot_place, end, after}

-- a list of two, and of one
two : {A : Type 0} (x y z : A) → Contains (x ∷ y ∷ []) z → (x ≡ z) ⊎ (y ≡ z)
two x y z h = ⊎_elim (λ e. inl e) (λ r. ⊎_elim (λ e. inr e) (λ n. absurd (has_none z n)) (has_cases y [] z r)) (has_cases x (y ∷ []) z h)

first : {A : Type 0} (x y : A) → Contains (x ∷ y ∷ []) x
first x y = has_here x (y ∷ []) x refl

second : {A : Type 0} (x y : A) → Contains (x ∷ y ∷ []) y
second x y = has_there x (y ∷ []) y (has_here y [] y refl)

one : {A : Type 0} (x z : A) → Contains (x ∷ []) z → x ≡ z
one x z h = ⊎_elim (λ e. e) (λ n. absurd (has_none z n)) (has_cases x [] z h)

only : {A : Type 0} (x : A) → Contains (x ∷ []) x
only x = has_here x [] x refl

knot_inj : (p q : Point) → knot_place p ≡ knot_place q → p ≡ q
knot_inj p q e = ap (λ k. k.point) e

end_inj : (p q : Point) → end p ≡ end q → p ≡ q
end_inj p q e = ap (λ s. s.point) e

apart : (c : Point) → c ≢ after c
apart c e = let x = ap (λ p. p.x) e in omega arith

after_inj : (c d : Point) → after c ≡ after d → c ≡ d
after_inj c d e = let x : c.x ≡ d.x = (let h = ap (λ p. p.x) e in omega arith) in λ i. record { x = x i; y = (e i).y; z = (e i).z }

-- the only piece of a cell
abbrev piece : Point → Piece
piece c = knot_place c ∷ knot_place (after c) ∷ []

-- a side of the thread has one cut, its knot
cut_knot : (b : Block) (l : Level) (s : Side) (p : Place) → CutOf thread b l s (p ∷ []) → knot_place s.point ≡ p
cut_knot b l s p k =
    let i = one (knot_place s.point ∷ []) k.0 k.1 in
    let same = subst (λ j. SameJoint j (p ∷ [])) (sym i) k.2 in
    sym (one p (knot_place s.point) ((same (knot_place s.point)).0 (only (knot_place s.point))))

knot_cut : (b : Block) (l : Level) (s : Side) → CutOf thread b l s (knot_place s.point ∷ [])
knot_cut b l s = (knot_place s.point ∷ [], only (knot_place s.point ∷ []), λ p. (λ h. h, λ h. h))

-- a place lies on the piece exactly where it is one of the two knots
on_piece : (c : Point) (p : Place) → on (p ∷ []) (piece c) ≡ true → Contains (piece c) p
on_piece c p t = (names_decides (knot_place c ∷ knot_place (after c) ∷ []) p).0 (and_parts (names (knot_place c ∷ knot_place (after c) ∷ []) p) true t).0

has_on : (c : Point) (p : Place) → Contains (piece c) p → on (p ∷ []) (piece c) ≡ true
has_on c p h = ap (λ t. t && true) ((names_decides (knot_place c ∷ knot_place (after c) ∷ []) p).1 h)

one_parity : (b : Block) (l : Level) (c : Point) (p : Place) → Odd (count_by (on (p ∷ [])) (thread.pieces b l c)) ↔ CutOfCell thread b l c (p ∷ [])
one_parity b l c p = (to, from)
  where
    to : Odd (count_by (on (p ∷ [])) (piece c ∷ [])) → CutOfCell thread b l c (p ∷ [])
    to h =
        let t = counted (on (p ∷ [])) (piece c ∷ []) (omega arith) in
        let k : Contains (piece c) p = on_piece c p (subst (λ q. on (p ∷ []) q ≡ true) (sym (one (piece c) t.0 t.1)) t.2) in
        ⊎_elim
        (λ e. (end c, first (end c) (end (after c)), subst (λ q. CutOf thread b l (end c) (q ∷ [])) e (knot_cut b l (end c))))
        (λ e. (end (after c), second (end c) (end (after c)), subst (λ q. CutOf thread b l (end (after c)) (q ∷ [])) e (knot_cut b l (end (after c)))))
        (two (knot_place c) (knot_place (after c)) p k)

    from : CutOfCell thread b l c (p ∷ []) → Odd (count_by (on (p ∷ [])) (piece c ∷ []))
    from k =
        let at = cut_knot b l k.0 p k.2 in
        let h : Contains (piece c) p =
        ⊎_elim
        (λ e. subst (Contains (piece c)) (ap (λ s. knot_place s.point) e ∙ at) (first (knot_place c) (knot_place (after c))))
        (λ e. subst (Contains (piece c)) (ap (λ s. knot_place s.point) e ∙ at) (second (knot_place c) (knot_place (after c))))
        (two (end c) (end (after c)) k.0 k.1) in
        let one_more = ap (λ t. cond {A = ℕ} t 1 0) (has_on c p h) in
        omega (arith, count_cons (on (p ∷ [])) (piece c) [])

parity : (b : Block) (l : Level) (c : Point) (j : Joint) → IsJoint thread j → Odd (count_by (on j) (thread.pieces b l c)) ↔ CutOfCell thread b l c j
parity b l c [] h = absurd (let e = h.0 in omega arith)
parity b l c (p ∷ []) h = one_parity b l c p
parity b l c (p ∷ q ∷ j) h = absurd (let e = h.0 in omega arith)

-- a side has one axis
side_is : (c : Point) (s : Side) → Contains (end c ∷ end (after c) ∷ []) s → end s.point ≡ s
side_is c s h = ⊎_elim (λ e. subst (λ t. end t.point ≡ t) e refl) (λ e. subst (λ t. end t.point ≡ t) e refl) (two (end c) (end (after c)) s h)

same_knot : (b : Block) (l : Level) (s t : Side) (j : Joint) → CutOf thread b l s j → CutOf thread b l t j → s.point ≡ t.point
same_knot b l s t j h k =
    let i = one (knot_place s.point ∷ []) h.0 h.1 in
    let i' = one (knot_place t.point ∷ []) k.0 k.1 in
    let p = subst (λ w. SameJoint w j) (sym i) h.2 in
    let q = subst (λ w. SameJoint w j) (sym i') k.2 in
    sym (knot_inj t.point s.point (one (knot_place t.point) (knot_place s.point) ((q (knot_place s.point)).1 ((p (knot_place s.point)).0 (only (knot_place s.point))))))

-- a side lies at the start of one cell and at the end of another
starts : (c : Point) (s : Side) → Contains (end c ∷ end (after c) ∷ []) s → (c ≡ s.point) ⊎ (after c ≡ s.point)
starts c s h = ⊎_elim (λ e. inl (ap (λ t. t.point) e)) (λ e. inr (ap (λ t. t.point) e)) (two (end c) (end (after c)) s h)

two_of_three : (q c d e : Point) → (c ≡ q) ⊎ (after c ≡ q) → (d ≡ q) ⊎ (after d ≡ q) → (e ≡ q) ⊎ (after e ≡ q) → (c ≡ d) ⊎ (d ≡ e) ⊎ (c ≡ e)
two_of_three q c d e (inl x) (inl y) z = inl (x ∙ sym y)
two_of_three q c d e (inl x) (inr y) (inl z) = inr (inr (x ∙ sym z))
two_of_three q c d e (inl x) (inr y) (inr z) = inr (inl (after_inj d e (y ∙ sym z)))
two_of_three q c d e (inr x) (inl y) (inl z) = inr (inl (y ∙ sym z))
two_of_three q c d e (inr x) (inl y) (inr z) = inr (inr (after_inj c e (x ∙ sym z)))
two_of_three q c d e (inr x) (inr y) z = inl (after_inj c d (x ∙ sym y))

named : (c : Point) (p : Place) → Contains (knot_place c ∷ knot_place (after c) ∷ []) p ↔ ((q : Piece) × Contains ((knot_place c ∷ knot_place (after c) ∷ []) ∷ []) q × Contains q p)
named c p = (
  λ h. (knot_place c ∷ knot_place (after c) ∷ [], only (knot_place c ∷ knot_place (after c) ∷ []), h),
  λ n. subst (λ q. Contains q p) (sym (one (knot_place c ∷ knot_place (after c) ∷ []) n.0 n.1)) n.2,
)

-- a vertex by its place
by_place : (c : Point) (v : Vertex) → Contains (knot c ∷ knot (after c) ∷ []) v → v ≡ knot v.place.point
by_place c v h = ⊎_elim (λ e. subst (λ w. w ≡ knot w.place.point) e refl) (λ e. subst (λ w. w ≡ knot w.place.point) e refl) (two (knot c) (knot (after c)) v h)

pub thread_laws : Laws thread
thread_laws = record {
  parity = λ b l c j r h. parity b l c j h;
  one_side = λ b l c d s t j r q h k m n. sym (side_is c s h) ∙ ap end (same_knot b l s t j m n) ∙ side_is d t k;
  two_cells = λ n c d e s p q r h k g. two_of_three s.point c d e (starts c s h) (starts d s k) (starts e s g);
  apart = λ b l c r. (λ h. apart c (sym (knot_inj (after c) c (one (knot_place (after c)) (knot_place c) h))), (has_none (knot_place (after c)), tt));
  named = λ b l c p r. named c p;
  offsets = λ b l c d v w r q h k e. by_place c v h ∙ ap (λ p. knot p.point) e ∙ sym (by_place d w k);
  sides_once = λ c. (λ h. apart c (sym (end_inj (after c) c (one (end (after c)) (end c) h))), (has_none (end (after c)), tt));
}
