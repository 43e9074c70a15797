-- Listed vertices, followed by those of a cell that are not listed yet.
use Rattle.std.proofs.Common.{◌≡◌, ◌≤◌, Bool, not, ◌⊎◌, List, ◌++◌, length, ap, ◌∙◌, subst, inl, inr, ⊎_elim, arith}
use Rattle.std.specs.List.{Contains}
use Rattle.std.proofs.lemmas.List.Elements.{Contains-append_left, Contains-append_right, Contains-append_cases}
use Rattle.std.proofs.lemmas.List.Sums.{length-filter, count_by-le-length}
use Rattle.std.proofs.lemmas.Bool.{both_ways, cases_Bool, not-true, not_from_false}
use Rattle.cell.specs.declared.vertex.Place.{Place}
use Rattle.cell.specs.declared.vertex.Vertex.{Vertex}
use Rattle.std.proofs.lemmas.List.{map-append}
use Rattle.kind.specs.Meaning.{Distinct, names, places_of}
use Rattle.kind.proofs.Members.{has_map, map_has, has_kept, kept_has, distinct_append, distinct_kept}
use Rattle.kind.proofs.Places.{names_decides}
use Rattle.surface.specs.Ledger.{fresh}

module _ (listed own : List Vertex) where
  abbrev new : List Vertex
  new = fresh listed own

  abbrev unlisted : Vertex → Bool
  unlisted v = not (names (places_of listed) v.place)

  split : places_of (listed ++ new) ≡ places_of listed ++ places_of new
  split = map-append (λ v. v.place) listed new

  pub fresh_own : (v : Vertex) → Contains new v → Contains own v
  fresh_own v h = (kept_has unlisted own v h).0

  pub length_fresh : length (fresh listed own) ≤ length own
  length_fresh = omega (arith, length-filter unlisted own, count_by-le-length unlisted own)

  -- no fresh place is listed
  pub fresh_apart : (p : Place) → Contains (places_of listed) p → Contains (places_of (fresh listed own)) p → ⊥
  fresh_apart p h k =
      let t = map_has (λ v. v.place) new p k in
      both_ways (names (places_of listed) t.0.place) (not-true _ (kept_has unlisted own t.0 t.1).1)
      ((names_decides (places_of listed) t.0.place).1 (rw t.2 h))

  pub fresh_once : Distinct (places_of listed) → Distinct (places_of own) → Distinct (places_of (listed ++ fresh listed own))
  fresh_once d e = rw split (distinct_append (places_of listed) (places_of new) d (distinct_kept (λ v. v.place) unlisted own e) fresh_apart)

  pub old_listed : (p : Place) → Contains (places_of listed) p → Contains (places_of (listed ++ fresh listed own)) p
  old_listed p h = rw split (Contains-append_left (places_of listed) (places_of new) p h)

  pub own_listed : (p : Place) → Contains (places_of own) p → Contains (places_of (listed ++ fresh listed own)) p
  own_listed p h =
      ⊎_elim (λ there. old_listed p ((names_decides (places_of listed) p).0 there))
      (λ absent.
      let t = map_has (λ v. v.place) own p h in
      rw split (Contains-append_right (places_of listed) (places_of new) p
      (subst (Contains (places_of new)) t.2 (has_map (λ v. v.place) new t.0
      (has_kept unlisted own t.0 (not_from_false _ (ap (names (places_of listed)) t.2 ∙ absent)) t.1)))))
      (cases_Bool (names (places_of listed) p))

  -- every listed place is an old one or the cell's own
  pub listed_cases : (p : Place) → Contains (places_of (listed ++ fresh listed own)) p → Contains (places_of listed) p ⊎ Contains (places_of own) p
  listed_cases p h =
      ⊎_elim inl
      (λ k. let t = map_has (λ v. v.place) new p k in inr (subst (Contains (places_of own)) t.2 (has_map (λ v. v.place) own t.0 (fresh_own t.0 t.1))))
      (Contains-append_cases (places_of listed) (places_of new) p (subst (λ ps. Contains ps p) split h))
