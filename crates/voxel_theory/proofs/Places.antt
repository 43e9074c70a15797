-- The places of a voxel: its local vertices have different ones, and those of its faces are among them.
use Rattle.std.proofs.Common.{◌≡◌, ℕ, ◌+◌, ◌-◌, ◌<◌, T, eqb, ltb, List, [], ◌∷◌, Some, None, Option, sym, refl, ap, ◌∙◌, arith, ltb→lt}
use Rattle.std.proofs.lemmas.Bool.{eqb-true, eq-eqb}
use Rattle.block.specs.Block.{Block}
use Rattle.block.specs.declared.lattice.Point.{Point}
use Rattle.cell.specs.Face.{face_segments}
use Rattle.kind.specs.Meaning.{Distinct, same_place}
use Rattle.cell.specs.declared.face.FacePoint.{FacePoint}
use Rattle.cell.specs.declared.face.FacePoint.TheVariants.{P0, P1, P2, P3, C}
use Rattle.cell.specs.declared.level.Level.{Level}
use Rattle.cell.specs.declared.vertex.Axis.{Axis}
use Rattle.cell.specs.declared.vertex.Axis.TheVariants.{X, Y, Z}
use Rattle.cell.specs.declared.vertex.Form.{Form}
use Rattle.cell.specs.declared.vertex.Form.TheVariants.{Edge, Face}
use Rattle.cell.specs.declared.vertex.Place.{Place}
use Rattle.cell.specs.declared.vertex.Side.{Side}
use Rattle.clipping.specs.Faces.{Placed, across_x, across_y, across_z, faces, x_edge, y_edge, z_edge, on_face, local_vertices}
use Rattle.kind.proofs.Members.{Numbered, numbered_distinct, numbered_at}
use Rattle.kind.proofs.Places.{same_place_decides, same_answer}
use Rattle.voxel_theory.specs.Voxel.{next, side, sides, face_place, at_heights, local_places, place_of, edge, heights}

-- ---- different places
-- a local vertex's number, by its form, its axis and its steps from the voxel's lowest corner
abbrev number_by : Option Form → Option Axis → ℕ → ℕ → ℕ → ℕ
number_by None a dx dy dz = 0
number_by (Some f) None dx dy dz = 0
number_by (Some Edge) (Some X) dx dy dz = x_edge dy dz
number_by (Some Edge) (Some Y) dx dy dz = y_edge dx dz
number_by (Some Edge) (Some Z) dx dy dz = z_edge dx dy
number_by (Some Face) (Some X) dx dy dz = 12 + dx
number_by (Some Face) (Some Y) dx dy dz = 14 + dy
number_by (Some Face) (Some Z) dx dy dz = 16 + dz

abbrev number_in : Point → Place → ℕ
number_in c p = number_by p.form p.axis (p.point.x - c.x) (p.point.y - c.y) (p.point.z - c.z)

places_numbered : (c : Point) → Numbered (number_in c) 0 (local_places c)
places_numbered c = (
  omega arith,
  (
    omega arith,
    (
      omega arith,
      (
        omega arith,
        (
          omega arith,
          (
            omega arith,
            (
              omega arith,
              (
                omega arith,
                (
                  omega arith,
                  (omega arith, (omega arith, (omega arith, (omega arith, (omega arith, (omega arith, (omega arith, (omega arith, (omega arith, tt))))))))),
                ),
              ),
            ),
          ),
        ),
      ),
    ),
  ),
)

pub places_distinct : (c : Point) → Distinct (local_places c)
places_distinct c = numbered_distinct (number_in c) 0 (local_places c) (places_numbered c)

number_at : (c : Point) (m : ℕ) → m < local_vertices → number_in c (place_of c m) ≡ m
number_at c m l = let e = numbered_at (number_in c) 0 (local_places c) (places_numbered c) m l (edge X c) in omega arith

pub place_injective : (c : Point) (m n : ℕ) → m < local_vertices → n < local_vertices → place_of c m ≡ place_of c n → m ≡ n
place_injective c m n lm ln e = sym (number_at c m lm) ∙ ap (number_in c) e ∙ number_at c n ln

-- so places are compared by numbers
pub place_test : (c : Point) (m n : ℕ) → m < local_vertices → n < local_vertices → same_place (place_of c m) (place_of c n) ≡ eqb m n
place_test c m n lm ln =
    same_answer (same_place (place_of c m) (place_of c n)) (eqb m n)
    (λ h. eq-eqb m n (place_injective c m n lm ln ((same_place_decides (place_of c m) (place_of c n)).0 h)))
    (λ h. (same_place_decides (place_of c m) (place_of c n)).1 (ap (place_of c) (eqb-true m n h)))

-- ---- a voxel's face and its side
pub record Matches (c : Point) (f : Placed) (s : Side) : Type 0 where
  pub place : (x : FacePoint) → place_of c (f.point x) ≡ face_place s x
  pub local : (x : FacePoint) → f.point x < local_vertices
  pub segments : (b : Block) (l : Level) → on_face face_segments (heights b l c) f ≡ at_heights face_segments b l s

abbrev pub AllMatch : Point → List Placed → List Side → Type 0
AllMatch c [] [] = Unit {0}
AllMatch c [] (s ∷ ss) = ⊥
AllMatch c (f ∷ fs) [] = ⊥
AllMatch c (f ∷ fs) (s ∷ ss) = Matches c f s × AllMatch c fs ss

each : (P : FacePoint → Type 0) → P P0 → P P1 → P P2 → P P3 → P C → (x : FacePoint) → P x
each P p0 p1 p2 p3 c P0 = p0
each P p0 p1 p2 p3 c P1 = p1
each P p0 p1 p2 p3 c P2 = p2
each P p0 p1 p2 p3 c P3 = p3
each P p0 p1 p2 p3 c C = c

-- every part of this is computed
matched : (c : Point) (f : Placed) (s : Side)
    → let Same : FacePoint → Type 0 = λ x. place_of c (f.point x) ≡ face_place s x in
    Same P0 → Same P1 → Same P2 → Same P3 → Same C
    → T (ltb (f.point P0) local_vertices) → T (ltb (f.point P1) local_vertices) → T (ltb (f.point P2) local_vertices) → T (ltb (f.point P3) local_vertices) → T (ltb (f.point C) local_vertices)
    → ((b : Block) (l : Level) → on_face face_segments (heights b l c) f ≡ at_heights face_segments b l s) → Matches c f s
matched c f s p0 p1 p2 p3 pc l0 l1 l2 l3 lc e = record {
  place = each (λ x. place_of c (f.point x) ≡ face_place s x) p0 p1 p2 p3 pc;
  local = each (λ x. f.point x < local_vertices) (ltb→lt _ _ l0) (ltb→lt _ _ l1) (ltb→lt _ _ l2) (ltb→lt _ _ l3) (ltb→lt _ _ lc);
  segments = e;
}

pub faces_match : (c : Point) → AllMatch c faces (sides c)
faces_match c = (
  matched c (across_x 0) (side X c) refl refl refl refl refl tt tt tt tt tt (λ b l. refl),
  (
    matched c (across_x 1) (side X (next X c)) refl refl refl refl refl tt tt tt tt tt (λ b l. refl),
    (
      matched c (across_y 0) (side Y c) refl refl refl refl refl tt tt tt tt tt (λ b l. refl),
      (
        matched c (across_y 1) (side Y (next Y c)) refl refl refl refl refl tt tt tt tt tt (λ b l. refl),
        (
          matched c (across_z 0) (side Z c) refl refl refl refl refl tt tt tt tt tt (λ b l. refl),
          (matched c (across_z 1) (side Z (next Z c)) refl refl refl refl refl tt tt tt tt tt (λ b l. refl), tt),
        ),
      ),
    ),
  ),
)
