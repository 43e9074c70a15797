-- What takes and withdrawals do to the lists, and that they answer it.
use Rattle.std.proofs.Common.{◌≡◌, suc, ◌-◌, Bool, true, not, List, [], ◌∷◌, ◌++◌, map, length, take as list_take, Some, Ok, filter, sym, refl, ap, ◌∙◌, subst, ⊎_elim, arith}
use Rattle.std.specs.List.{Contains, slice_get}
use Rattle.std.proofs.lemmas.List.{length-append, length_push, map-append, map-id}
use Rattle.std.proofs.lemmas.Option.{slice_get_read}
use Rattle.std.proofs.lemmas.List.Sums.{length-filter, count_by-le-length}
use Rattle.std.proofs.lemmas.Bool.{both_ways, cases_Bool, cond-true, cond-false, not-false, not_from_true, not_from_false}
use Rattle.block.specs.Block.{Block}
use Rattle.block.specs.declared.lattice.Point.{Point}
use Rattle.cell.specs.declared.vertex.Place.{Place}
use Rattle.cell.specs.declared.vertex.Vertex.{Vertex}
use Rattle.kind.specs.Meaning.{Distinct, same_point}
use Rattle.kind.specs.Shapes.{number}
use Rattle.kind.proofs.Members.{has_none, has_here, has_there, has_cases, has_map, map_has}
use Rattle.surface.specs.Ledger.{Opening, take_cell, withdraw_cell, Held, State, positions, pieces_of, piece_list, named_by, fresh, without, still_named, struck, vertices_at, pieces_at, entered, counts, answer, step, after}
use Rattle.surface.specs.Changes.{Appended, Split, renumbered, Followed, Changes, More, Counted}
use Rattle.surface.specs.Kept.{Kept, Named}
use Rattle.surface.proofs.Checks.{test_failed}
use Rattle.surface.proofs.Decisions.{refuted, same_point_decides, has_position_decides, named_by_decides}
use Rattle.surface.proofs.Filtered.{kept_all}
use Rattle.surface.proofs.Joined.{joined_kept_by}
use Rattle.surface.proofs.Numbers.{number_append, number_counted, number_kept, named_listed}
use Rattle.surface.proofs.Runs.{always_sound, accepted_call, answered}
use Rattle.surface.proofs.Sound.{entered_pieces, named_part}

-- a map in two steps
map_through : {X Y Z : Type 0} (f : X → Z) (g : X → Y) (h : Y → Z) (xs : List X) → ((x : X) → Contains xs x → f x ≡ h (g x)) → map f xs ≡ map h (map g xs)
map_through f g h [] same = refl
map_through f g h (x ∷ xs) same =
    ap (λ y. y ∷ map f xs) (same x (has_here x xs x refl)) ∙ ap (λ ys. h (g x) ∷ ys) (map_through f g h xs (λ y k. same y (has_there x xs y k)))

-- what a take appends
appended : (o : Opening) (s : State) (b : Block) (c : Point) → Kept o s → Appended o s b c
appended o s b c ok =
    let new = number (entered o s b c).vertices in
    let old = number s.vertices in
    let same : map (map new) (pieces_of s.held) ≡ piece_list s =
    map_through (map new) (map old) (λ ns. ns) (pieces_of s.held)
    (λ q h. map_through new old (λ n. n) q (λ p k. number_append s.vertices (fresh s.vertices (vertices_at o b c)) p (named_listed o s ok q h p k)) ∙ map-id (map old q))
    ∙ map-id (piece_list s) in
    ap (map (map new)) (entered_pieces o s b c) ∙ map-append (map new) (pieces_of s.held) (pieces_at o b c) ∙ ap (λ qs. qs ++ map (map new) (pieces_at o b c)) same

take_more : (o : Opening) (s : State) (b : Block) (c : Point) → More s (entered o s b c) (counts o s (take_cell b c))
take_more o s b c = record {
  cells = length_push s.held (record { position = c; pieces = pieces_at o b c });
  vertices = length-append s.vertices (fresh s.vertices (vertices_at o b c));
  pieces = ap length (entered_pieces o s b c) ∙ length-append (pieces_of s.held) (pieces_at o b c);
}

-- what a withdrawal leaves
split : (hs : List Held) (c : Point) → Distinct (positions hs) → Contains (positions hs) c → Split hs c
split [] c d h = absurd (has_none c h)
split (g ∷ hs) c d h =
    ⊎_elim
    (λ t.
    let here : g.position ≡ c = (same_point_decides g.position c).0 t in
    let apart : (k : Held) → Contains hs k → not (same_point k.position c) ≡ true =
    λ k m. not_from_false _ (refuted (same_point_decides k.position c) (λ e. d.0 (subst (Contains (positions hs)) (e ∙ sym here) (has_map (λ x. x.position) hs k m)))) in
    record {
      before = [];
      cell = g;
      behind = hs;
      is_at = here;
      whole = refl;
      rest = cond-false _ (g ∷ without hs c) (without hs c) (not_from_true _ t) ∙ kept_all (λ k. not (same_point k.position c)) hs apart;
    })
    (λ f.
    let later : Contains (positions hs) c = ⊎_elim (λ e. absurd (both_ways _ f ((same_point_decides g.position c).1 e))) (λ r. r) (has_cases g.position (positions hs) c h) in
    let t = split hs c d.1 later in
    record {
      before = g ∷ t.before;
      cell = t.cell;
      behind = t.behind;
      is_at = t.is_at;
      whole = ap (λ ks. g ∷ ks) t.whole;
      rest = cond-true _ (g ∷ without hs c) (without hs c) (not_from_false _ f) ∙ ap (λ ks. g ∷ ks) t.rest;
    })
    (cases_Bool (same_point g.position c))

module _ (o : Opening) (s : State) (ok : Kept o s) (c : Point) (held : Contains (positions s.held) c) where
  abbrev left : List Held
  left = without s.held c

  abbrev wanted : Vertex → Bool
  wanted v = named_by (pieces_of left) v.place

  -- the number of a place that is still named
  follows : (p : Place) → Named (pieces_of left) p → number (still_named left s.vertices) p ≡ renumbered wanted s.vertices (number s.vertices p)
  follows p n =
      let v = map_has (λ u. u.place) s.vertices p ((ok.named p).1 (named_part (λ h. not (same_point h.position c)) s.held p n)) in
      let k = v.1.0 in
      let at : slice_get s.vertices k ≡ Some v.0 = slice_get_read s.vertices (length s.vertices) k v.0 refl v.1.1 (sym v.1.2) in
      let less : k ≡ suc k - 1 = omega arith in
      let is : wanted v.0 ≡ true = (named_by_decides (pieces_of left) v.0.place).1 (subst (Named (pieces_of left)) (sym v.2) n) in
      subst (λ q. number (still_named left s.vertices) q ≡ renumbered wanted s.vertices (number s.vertices q)) v.2
      (number_kept wanted s.vertices ok.once k v.0 at is
      ∙ ap (λ i. suc (length (filter wanted (list_take i s.vertices)))) less
      ∙ ap (renumbered wanted s.vertices) (sym (number_counted s.vertices ok.once k v.0 at)))

  pub all_follow : Followed s c
  all_follow =
      map_through (map (number (still_named left s.vertices))) (map (number s.vertices)) (map (renumbered wanted s.vertices)) (pieces_of left)
      (λ q m. map_through (number (still_named left s.vertices)) (number s.vertices) (renumbered wanted s.vertices) q (λ p r. follows p (q, m, r)))

  withdraw_more : More (struck s c) s (counts o s (withdraw_cell c))
  withdraw_more =
      let t = split s.held c ok.apart held in
      record {
        cells = omega (arith, ap length t.whole, ap length t.rest, length-append t.before (t.cell ∷ t.behind), length-append t.before t.behind);
        vertices = omega (arith, length-filter wanted s.vertices, count_by-le-length wanted s.vertices);
        pieces = omega (arith, joined_kept_by (λ g. g.pieces) (λ g. not (same_point g.position c)) s.held);
      }

pub changes : Changes
changes o laws cs =
    let ok = (always_sound o laws cs).kept in
    (λ b c. appended o (after o cs) b c ok, λ c h. (split (after o cs).held c ok.apart h, all_follow o (after o cs) ok c h))

pub counted : Counted
counted o laws cs n = (take, withdraw)
  where
    s : State
    s = after o cs

    take : (b : Block) (c : Point) → answer o s (take_cell b c) ≡ Ok n → More s (step o s (take_cell b c)) n
    take b c e =
        let a = answered o s (take_cell b c) n e in
        rw (accepted_call o s (take_cell b c) a.0).1 (subst (More s (entered o s b c)) a.1 (take_more o s b c))

    withdraw : (c : Point) → answer o s (withdraw_cell c) ≡ Ok n → More (step o s (withdraw_cell c)) s n
    withdraw c e =
        let a = answered o s (withdraw_cell c) n e in
        let held = (has_position_decides (positions s.held) c).0 (not-false _ (test_failed _ 9 a.0)) in
        rw (accepted_call o s (withdraw_cell c) a.0).1 (subst (More (struck s c) s) a.1 (withdraw_more o s (always_sound o laws cs).kept c held))
