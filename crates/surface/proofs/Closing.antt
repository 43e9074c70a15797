-- Where one block was read, a joint lies on an odd number of pieces exactly when it is a cut of a border side.
use Rattle.std.proofs.Common.{◌≡◌, ℕ, cond, ◌⊎◌, ◌↔◌, sum_by, count_by, sym, ap, ◌∙◌, subst, arith}
use Rattle.std.specs.List.{Contains}
use Rattle.block.specs.Block.{Block}
use Rattle.cell.specs.declared.vertex.Side.{Side}
use Rattle.kind.specs.Meaning.{Laws, Joint, IsJoint, Odd, CutOf, CutOfCell, on}
use Rattle.surface.specs.Ledger.{Opening, Held, State, pieces_of}
use Rattle.surface.specs.Surface.{OnBorder, Closed}
use Rattle.surface.proofs.Joined.{sum_by_joined}
use Rattle.surface.proofs.Sound.{Sound, Good, good_on}
use Rattle.surface.proofs.Tally.{Tally, none, one, two, tally}

-- the pieces of a held cell on a joint
abbrev share : Joint → Held → ℕ
share j h = count_by (on j) h.pieces

module _ (o : Opening) (laws : Laws o.meaning) (b : Block) (s : State) (ok : Sound (λ a. a ≡ b) o s) (j : Joint) (joint : IsJoint o.meaning j) where
  good : (h : Held) → Contains s.held h → Good o b h
  good = good_on b o s ok

  -- the joint is a cut of the cell
  abbrev Counts : Held → Type 0
  Counts h = CutOfCell o.meaning b o.level h.position j

  odd_share : (h : Held) → Contains s.held h → Odd (share j h) ↔ Counts h
  odd_share h k =
      subst (λ qs. Odd (count_by (on j) qs) ↔ Counts h) (sym (good h k).its_pieces) (laws.parity b o.level h.position j (good h k).readable joint)

  -- two cells that the joint is a cut of have it on one side
  one_side : (g h : Held) (t u : Side) → Contains s.held g → Contains s.held h → Contains (o.meaning.sides g.position) t → Contains (o.meaning.sides h.position) u → CutOf o.meaning b o.level t j → CutOf o.meaning b o.level u j → t ≡ u
  one_side g h t u p q = laws.one_side b o.level g.position h.position t u j (good g p).readable (good h q).readable

  -- no three cells have the joint
  no_three : (g h k : Held) → Contains s.held g → Contains s.held h → Contains s.held k → Counts g → Counts h → Counts k →
      (g.position ≡ h.position) ⊎ (h.position ≡ k.position) ⊎ (g.position ≡ k.position)
  no_three g h k p q r c d e =
      laws.two_cells b.sizes g.position h.position k.position c.0
      (good g p).readable.is_cell (good h q).readable.is_cell (good k r).readable.is_cell
      c.1
      (subst (Contains (o.meaning.sides h.position)) (one_side h g d.0 c.0 q p d.1 c.1 d.2 c.2) d.1)
      (subst (Contains (o.meaning.sides k.position)) (one_side k g e.0 c.0 r p e.1 c.1 e.2 c.2) e.1)

  abbrev Sum : Type 0
  Sum = Tally (λ h. h.position) (share j) Counts s.held

  counted : Sum
  counted = tally (λ h. h.position) (share j) Counts s.held ok.kept.apart odd_share no_three

  -- an odd sum has one cell that counts, and the joint is on a side of it that is no other's
  to_border : Sum → Odd (sum_by (share j) s.held) → OnBorder o b s j
  to_border (none all e) odd = let z : ⊥ = omega arith in absurd z
  to_border (one h k c alone e) odd =
      (c.0, record { cell = h; is_held = k; is_side = c.1; alone = λ g p q. ap (λ x. x.position) (alone g p (c.0, q, c.2)) }, c.2)
  to_border (two h k p q c d ne e) odd = let z : ⊥ = omega arith in absurd z

  -- a border side with the joint makes one cell count, so the sum is odd
  from_border : Sum → OnBorder o b s j → Odd (sum_by (share j) s.held)
  from_border (none all e) t = absurd (all t.1.cell t.1.is_held (t.0, t.1.is_side, t.2))
  from_border (one h k c alone e) t = e
  from_border (two h k p q c d ne e) t =
      let at : (g : Held) → Contains s.held g → Counts g → g.position ≡ t.1.cell.position =
      λ g r f. t.1.alone g r (subst (Contains (o.meaning.sides g.position)) (one_side g t.1.cell f.0 t.0 r t.1.is_held f.1 t.1.is_side f.2 t.2) f.1) in
      absurd (ne (at h p c ∙ sym (at k q d)))

  closed_at : Odd (count_by (on j) (pieces_of s.held)) ↔ OnBorder o b s j
  closed_at = rw (sum_by_joined (λ h. h.pieces) (λ q. cond (on j q) 1 0) s.held) (to_border counted, from_border counted)

pub closed : (o : Opening) → Laws o.meaning → (b : Block) (s : State) → Sound (λ a. a ≡ b) o s → Closed o b s
closed o laws b s ok j joint = closed_at o laws b s ok j joint
