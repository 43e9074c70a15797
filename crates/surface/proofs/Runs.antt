-- Every list of calls leaves a sound state.
use Rattle.std.proofs.Common.{◌≡◌, ℕ, ◌↔◌, List, [], ◌∷◌, ◌++◌, Some, None, Ok, Err, Option, Result, refl, ap, arith}
use Rattle.block.specs.Block.{Block}
use Rattle.block.specs.Refusals.{Told}
use Rattle.kind.specs.Meaning.{Laws}
use Rattle.surface.specs.Ledger.{Opening, Call, take_cell, withdraw_cell, question, State, blank, declined, accepted, counts, answer, step, after_from, after, Reads, EachReads}
use Rattle.surface.specs.declared.lists.Counts.{Counts}
use Rattle.surface.proofs.Checks.{accepted_take}
use Rattle.surface.proofs.Sound.{Sound, blank_sound, entered_sound, struck_sound}

module _ (R : Block → Type 0) (o : Opening) (laws : Laws o.meaning) where
  -- an accepted call keeps a state sound
  accepted_sound : (s : State) (c : Call) → Sound R o s → Reads o R s c → declined o s c ≡ None → Sound R o (accepted o s c)
  accepted_sound s (take_cell b c) ok reads e = let a = accepted_take o s b c e in entered_sound R o laws s ok b c (reads e) a.0 a.1
  accepted_sound s (withdraw_cell c) ok reads e = struck_sound R o laws s ok c
  accepted_sound s question ok reads e = ok

  -- and so does each call
  step_sound : (s : State) (c : Call) → Sound R o s → Reads o R s c → Sound R o (step o s c)
  step_sound s c ok reads = go (declined o s c) refl
    where
      go : (r : Option Told) → declined o s c ≡ r → Sound R o (elim r [ Some t ↦ s | None ↦ accepted o s c ])
      go (Some t) e = ok
      go None e = accepted_sound s c ok reads e

  run_sound : (s : State) (cs : List Call) → Sound R o s → EachReads o R s cs → Sound R o (after_from o s cs)
  run_sound s [] ok reads = ok
  run_sound s (c ∷ cs) ok reads = run_sound (step o s c) cs (step_sound s c ok reads.0) reads.1

  -- from the opening on
  pub sound : (cs : List Call) → EachReads o R blank cs → Sound R o (after o cs)
  sound cs reads = run_sound blank cs (blank_sound R o) reads

-- whichever blocks were read
abbrev pub Any : Block → Type 0
Any b = Unit {0}

module _ (o : Opening) where
  any_read : (s : State) (c : Call) → Reads o Any s c
  any_read s (take_cell b c) = λ e. tt
  any_read s (withdraw_cell c) = tt
  any_read s question = tt

  each_read : (s : State) (cs : List Call) → EachReads o Any s cs
  each_read s [] = tt
  each_read s (c ∷ cs) = (any_read s c, each_read (step o s c) cs)

  pub always_sound : Laws o.meaning → (cs : List Call) → Sound Any o (after o cs)
  always_sound laws cs = sound Any o laws cs (each_read blank cs)

  -- a declined call tells why, and alters nothing
  pub declined_call : (s : State) (c : Call) (t : Told) → declined o s c ≡ Some t → (answer o s c ≡ Err t) × (step o s c ≡ s)
  declined_call s c t e =
      (ap (λ r. elim r [ Some u ↦ Err u | None ↦ Ok (counts o s c) ]) e, ap (λ r. elim r [ Some u ↦ s | None ↦ accepted o s c ]) e)

  -- an accepted one tells the counts
  pub accepted_call : (s : State) (c : Call) → declined o s c ≡ None → (answer o s c ≡ Ok (counts o s c)) × (step o s c ≡ accepted o s c)
  accepted_call s c e =
      (ap (λ r. elim r [ Some u ↦ Err u | None ↦ Ok (counts o s c) ]) e, ap (λ r. elim r [ Some u ↦ s | None ↦ accepted o s c ]) e)

  -- a call that tells counts is accepted
  pub answered : (s : State) (c : Call) (n : Counts) → answer o s c ≡ Ok n → (declined o s c ≡ None) × (counts o s c ≡ n)
  answered s c n e = go (declined o s c) refl e
    where
      told_by : Option Told → Result Counts Told
      told_by r = elim r [ Some t ↦ Err t | None ↦ Ok (counts o s c) ]

      go : (r : Option Told) → declined o s c ≡ r → told_by r ≡ Ok n → (declined o s c ≡ None) × (counts o s c ≡ n)
      go (Some t) d e = let z : ◌≡◌ {A = ℕ} 0 1 = cc in let y : ⊥ = omega arith in absurd y
      go None d e = (d, cc)

  -- the state after calls and more calls
  pub after_append : (s : State) (cs ds : List Call) → after_from o s (cs ++ ds) ≡ after_from o (after_from o s cs) ds
  after_append s [] ds = refl
  after_append s (c ∷ cs) ds = after_append (step o s c) cs ds

  -- what they read
  pub reads_append : (R : Block → Type 0) (s : State) (cs ds : List Call) → EachReads o R s (cs ++ ds) ↔ (EachReads o R s cs × EachReads o R (after_from o s cs) ds)
  reads_append R s [] ds = (λ r. (tt, r), λ r. r.1)
  reads_append R s (c ∷ cs) ds =
      let more = reads_append R (step o s c) cs ds in
      (λ r. let t = more.0 r.1 in ((r.0, t.0), t.1), λ r. (r.0.0, more.1 (r.0.1, r.1)))
