-- Segments entered one after the other into the eighteen numbers.
use Rattle.std.proofs.Common.{◌≡◌, ℕ, ◌+◌, ◌<◌, ◌≤◌, true, ◌≢◌, List, [], ◌∷◌, ◌++◌, get_or, take, ℤ, sym, refl, ap, ◌∙◌, subst, ⊎_elim, arith, lit<}
use lib.Count.{ones}
use Rattle.std.proofs.lemmas.List.{get_or-replicate, append_assoc, append-nil, take_more}
use Rattle.std.proofs.lemmas.List.Sums.{sum_by-append, sum_by-cons}
use Rattle.std.proofs.lemmas.Bool.{cases_lt}
use Rattle.clipping.specs.Faces.{Segment, Placed, Off, faces, segments_on, segments_on_all, voxel_segments}
use Rattle.clipping.specs.Clip.{ends_at, joins, degree, toggle}
use Rattle.clipping.specs.Laws.{times, Tame}
use Rattle.clipping.specs.Masks.{digit, toggled, entered, blank, Means, Clippable}
use Rattle.clipping.proofs.Sets.{bit, bit_true, toggle_times, toggle_degree, linked_times, joins_itself, left_end, right_end}
use Rattle.clipping.proofs.Masks.{means_toggled}
use Rattle.clipping.proofs.Voxels.{voxels}

-- the numbers do not see the order of a set
means_same : (xs : List ℕ) (ss ts : List Segment) → ((x y : ℕ) → times ss x y ≡ times ts x y) → ((x : ℕ) → degree ss x ≡ degree ts x) → Means xs ss → Means xs ts
means_same xs ss ts e f m = record {
  long = m.long;
  digits = λ u v p q. m.digits u v p q ∙ e u v;
  counts = λ u p. m.counts u p ∙ f u;
  small = m.small;
}

times_append : (ss ts : List Segment) (x y : ℕ) → times (ss ++ ts) x y ≡ times ss x y + times ts x y
unfolding times
times_append ss ts x y = sum_by-append (λ s. bit (joins x y s)) ss ts

times_one : (s : Segment) (x y : ℕ) → times (s ∷ []) x y ≡ bit (joins x y s)
unfolding times
times_one s x y = sum_by-cons (λ k. bit (joins x y k)) s [] ∙ omega arith

degree_append : (ss ts : List Segment) (x : ℕ) → degree (ss ++ ts) x ≡ degree ss x + degree ts x
unfolding degree
degree_append ss ts x = sum_by-append (λ s. bit (ends_at x s)) ss ts

degree_one : (s : Segment) (x : ℕ) → degree (s ∷ []) x ≡ bit (ends_at x s)
unfolding degree
degree_one s x = sum_by-cons (λ k. bit (ends_at x k)) s [] ∙ omega arith

digit_nought : (v : ℕ) → digit 0 v ≡ 0
digit_nought v = omega arith

-- nothing is entered yet
pub means_blank : Means blank []
unfolding times degree ones
means_blank = record {
  long = refl;
  digits = λ u v p q. ap (λ n. digit n v) (get_or-replicate 18 u 0 0 p) ∙ digit_nought v;
  counts = λ u p. ap ones (get_or-replicate 18 u 0 0 p);
  small = λ u p. subst (λ n. n < 262144) (sym (get_or-replicate 18 u 0 0 p)) (lit< tt);
}

-- one segment more at the end
means_entered : (xs : List ℕ) (ss : List Segment) (s : Segment) → Means xs ss → ((x y : ℕ) → times ss x y ≤ 1) → times ss s.0 s.1 ≡ 0 → s.0 < 18 → s.1 < 18 → s.0 ≢ s.1
    → Means (toggled xs s.0 s.1) (ss ++ (s ∷ []))
means_entered xs ss s m once new p q ne =
    means_same (toggled xs s.0 s.1) (toggle ss s.0 s.1) (ss ++ (s ∷ []))
    (λ x y. ⊎_elim (λ h. absurd (omega (arith, linked_times ss s.0 s.1 h.0))) (λ h. omega (arith, times_append ss (s ∷ []) x y, times_one s x y)) (toggle_times ss s.0 s.1 x y))
    (λ x. ⊎_elim (λ h. absurd (omega (arith, linked_times ss s.0 s.1 h.0))) (λ h. omega (arith, degree_append ss (s ∷ []) x, degree_one s x)) (toggle_degree ss s.0 s.1 x))
    (means_toggled xs ss m once s.0 s.1 p q ne)

-- a segment of a tame set that is not entered yet
module _ (ss ts : List Segment) (s : Segment) (t : Tame (ss ++ (s ∷ ts))) where
  seen : 1 ≤ times (s ∷ ts) s.0 s.1
  unfolding times
  seen = omega (arith, sum_by-cons (λ k. bit (joins s.0 s.1 k)) s ts, bit_true (joins s.0 s.1 s) (joins_itself s.0 s.1))

  new : times ss s.0 s.1 ≡ 0
  new = let h = seen in omega (arith, t.once s.0 s.1, times_append ss (s ∷ ts) s.0 s.1)

  still_once : (x y : ℕ) → times ss x y ≤ 1
  still_once x y = omega (arith, t.once x y, times_append ss (s ∷ ts) x y)

  low : (x : ℕ) → ends_at x s ≡ true → x < 18
  unfolding degree
  low x e = ⊎_elim (λ p. p)
      (λ p. absurd (omega (arith, t.local x p, degree_append ss (s ∷ ts) x, sum_by-cons (λ k. bit (ends_at x k)) s ts, bit_true (ends_at x s) e))) (cases_lt x 18)

  apart : s.0 ≢ s.1
  apart e =
      let h = seen in
      let k : times (s ∷ ts) s.0 s.1 ≡ times (s ∷ ts) s.0 s.0 = ap (times (s ∷ ts) s.0) (sym e) in
      omega (arith, t.no_loop s.0, times_append ss (s ∷ ts) s.0 s.0)

-- a whole list
pub means_entered_all : (ts : List Segment) (xs : List ℕ) (ss : List Segment) → Tame (ss ++ ts) → Means xs ss → Means (entered xs ts) (ss ++ ts)
means_entered_all [] xs ss t m = subst (Means xs) (sym (append-nil ss)) m
means_entered_all (s ∷ ts) xs ss t m =
    let e : (ss ++ (s ∷ [])) ++ ts ≡ ss ++ (s ∷ ts) = append_assoc ss (s ∷ []) ts in
    let k = means_entered xs ss s m (still_once ss ts s t) (new ss ts s t) (low ss ts s t s.0 (left_end s.0 s.1)) (low ss ts s t s.1 (right_end s.0 s.1)) (apart ss ts s t) in
    subst (Means (entered (toggled xs s.0 s.1) ts)) e (means_entered_all ts (toggled xs s.0 s.1) (ss ++ (s ∷ [])) (subst Tame (sym e) t) k)

-- a voxel's segments, entered one after the other
pub voxel_means : (g : ℕ → ℤ) → Off g → Means (entered blank (voxel_segments g)) (voxel_segments g)
voxel_means g off = means_entered_all (voxel_segments g) blank [] (voxels g off).0 means_blank

pub voxel_clippable : (g : ℕ → ℤ) → Off g → Clippable (entered blank (voxel_segments g))
voxel_clippable g off =
    let v = voxels g off in
    record { segments = voxel_segments g; means = voxel_means g off; tame = v.0; few = v.2 }

-- one face more
entered_append : (xs : List ℕ) (ss ts : List Segment) → entered xs (ss ++ ts) ≡ entered (entered xs ss) ts
entered_append xs [] ts = refl
entered_append xs (s ∷ ss) ts = entered_append (toggled xs s.0 s.1) ss ts

segments_push : (g : ℕ → ℤ) (fs : List Placed) (f : Placed) → segments_on_all g (fs ++ (f ∷ [])) ≡ segments_on_all g fs ++ segments_on g f
segments_push g [] f = append-nil (segments_on g f)
segments_push g (h ∷ fs) f =
    ap (λ ss. segments_on g h ++ ss) (segments_push g fs f) ∙ sym (append_assoc (segments_on g h) (segments_on_all g fs) (segments_on g f))

pub face_more : (g : ℕ → ℤ) (xs ys : List ℕ) (i : ℕ) (f : Placed) → i < 6 → f ≡ get_or faces i f → xs ≡ entered blank (segments_on_all g (take i faces)) → ys ≡ entered xs (segments_on g f)
    → ys ≡ entered blank (segments_on_all g (take (i + 1) faces))
face_more g xs ys i f l e ex ey =
    ey ∙ ap (λ zs. entered zs (segments_on g f)) ex ∙ sym (entered_append blank (segments_on_all g (take i faces)) (segments_on g f))
    ∙ ap (entered blank) (sym (segments_push g (take i faces) f)
    ∙ ap (λ k. segments_on_all g (take i faces ++ (k ∷ []))) e ∙ ap (segments_on_all g) (sym (take_more faces i f l)))
