-- The clipping of a set by the code, from its start to its end.
use Rattle.std.proofs.Common.{◌≡◌, ℕ, ◌+◌, ◌<◌, ◌≤◌, List, [], ◌∷◌, ◌++◌, map, length, take, set, sym, refl, ap, ◌∙◌, ⊎_elim, arith}
use Rattle.std.proofs.lemmas.List.{take_more_set, map_push, append_assoc, append-nil, nil_from_length}
use Rattle.std.proofs.lemmas.Bool.{cases_lt}
use Rattle.clipping.specs.Faces.{Segment}
use Rattle.clipping.specs.Clip.{apex, triangles, clip}
use Rattle.clipping.specs.Laws.{Tame}
use Rattle.clipping.specs.Masks.{apex_of, Means, Clippable, Stepped}
use Rattle.shell.specs.Shell.{named}
use Rattle.shell.specs.Progress.{Progress}
use Rattle.shell.specs.declared.LocalTriangle.{LocalTriangle}
use Rattle.clipping.proofs.Clips.{clips}
use Rattle.clipping.proofs.Reading.{apex_read, apex_empty, triangles_step}

triangles_none : triangles [] ≡ []
unfolding triangles clip
triangles_none = refl

pub more : (ss : List Segment) (xs ys : List ℕ) (out : List LocalTriangle) (n : ℕ) (p : LocalTriangle) (g : Progress ss xs out n) → n < length out → Stepped g.rest ys (named p) → Progress ss ys (set out n p) (n + 1)
more ss xs ys out n p g l s = record {
  rest = s.rest;
  means = s.means;
  tame = s.tame;
  done = ap (λ ps. map named ps ++ triangles s.rest) (take_more_set out n p l)
      ∙ ap (λ ts. ts ++ triangles s.rest) (map_push named (take n out) p)
      ∙ append_assoc (map named (take n out)) (named p ∷ []) (triangles s.rest)
      ∙ ap (λ ts. map named (take n out) ++ ts) (sym s.first)
      ∙ g.done;
  count = let k = ap length s.first in let h = g.count in omega arith;
  fewer = let a = s.fewer in let b = g.fewer in omega arith;
}

-- at the end nothing is left
pub finish : (ss : List Segment) (xs : List ℕ) (out : List LocalTriangle) (n : ℕ) → Progress ss xs out n → 18 ≤ apex_of xs → map named (take n out) ≡ triangles ss
finish ss xs out n g h =
    let e = apex_empty g.rest g.tame (omega (arith, apex_read xs g.rest g.means)) in
    sym (append-nil (map named (take n out))) ∙ ap (λ ts. map named (take n out) ++ ts) (sym (ap triangles e ∙ triangles_none)) ∙ g.done

-- there is room for one more triangle
pub room : (ss : List Segment) (xs : List ℕ) (out : List LocalTriangle) (n : ℕ) → Progress ss xs out n → Tame ss → length ss ≤ 24 → apex_of xs < 18 → n < 22
room ss xs out n g t l h =
    let top : apex g.rest < 18 = omega (arith, apex_read xs g.rest g.means) in
    let k = ap length (triangles_step g.rest _ _ _ g.tame top refl refl refl) in
    let c = g.count in
    let some : 0 < length ss = ⊎_elim (λ p. p) (λ p. absurd (omega (arith, ap length (ap triangles (nil_from_length ss (omega arith)) ∙ triangles_none)))) (cases_lt 0 (length ss)) in
    let f = (clips ss t).1.few some in
    omega arith

-- what holds while a clippable set is clipped
module _ (xs ys : List ℕ) (out : List LocalTriangle) (n : ℕ) (k : Clippable xs) (i : (ss : List Segment) → Means xs ss → Tame ss → Progress ss ys out n) where
  pub long_left : length ys ≡ 18
  long_left = (i k.segments k.means k.tame).means.long

  pub room_left : apex_of ys < 18 → n < 22
  room_left h = room k.segments ys out n (i k.segments k.means k.tame) k.tame k.few h
