-- A call and the pass behind it: one law for each way out. Assumes nothing.
use Prim.Native.Nat.{ℕ, ◌+◌}
use mathlib.Core.Bool.{true, false, false≢true}
use mathlib.Core.List.{[], ◌∷◌}
use mathlib.Core.Path.{◌≡◌, refl, sym, ap, ◌∙◌}
use native.Mathlib.Omega.{arith}
use Rattle.std.specs.Prelude.{Result, Ok, Err, is_err}
use Rattle.lists.proofs.Cases.{pick_case, different, some_case}
use Rattle.state.specs.declared.HaltReason.{HaltReason}
use Rattle.state.specs.declared.KernelEvent.TheVariants as event
use Rattle.state.specs.declared.KernelState.{KernelState}
use Rattle.state.specs.declared.Refusal.{Refusal}
use Rattle.rules.specs.Run as rules
use Rattle.rules.specs.Run.{Run}
use Rattle.rules.specs.Calls as calls
use Rattle.rules.specs.Calls.{counts_fit, is_paused, halted, answer_on, answer, pass, returned}
use Rattle.rules.specs.Batch.{is_stay}
use Rattle.reports.specs.Log.{Logged, append_event, append_events, outcome_of, StepResult, expected, actual}
use Rattle.reports.specs.declared.Stop.TheVariants.{Left, Halt, Ended}
use Rattle.reports.proofs.Append.{appended_append}
use Rattle.reports.proofs.Then.{ran_there}
use Rattle.entry.specs.Entry.{answer_number, passed}
use Rattle.entry.proofs.Answered.{ran_by}
use Rattle.batch.specs.Batch.{called, told}

-- ---- how a step went
only_left : (o : rules.Outcome) → Err Left ≡ outcome_of o → o ≡ rules.left
only_left rules.ran e = different cc
only_left rules.left e = refl
only_left (rules.halt h) e = different cc
only_left (rules.ended ms) e = different cc

only_halt : (h : HaltReason) (o : rules.Outcome) → Err (Halt h) ≡ outcome_of o → o ≡ rules.halt h
only_halt h rules.ran e = different cc
only_halt h rules.left e = different cc
only_halt h (rules.halt g) e = cc
only_halt h (rules.ended ms) e = different cc

-- ---- a call: r is what its phases give, and the code left t and m
module _ (l : Logged) (r : Run) {t : KernelState} {m : Logged} where
  pub call_ran : actual (Ok tt) t m ≡ expected l r → called true t m ≡ told l (answer r)
  unfolding expected told answer
  call_ran e =
      ap (λ (x : StepResult). called true x.state x.log) e
      ∙ ap (λ o. told l (answer_on o r.state r.events)) (sym (ran_there l r e).0)

  pub call_left : actual (Err Left) t m ≡ expected l r → called true t m ≡ told l (answer r)
  unfolding expected told answer
  call_left e =
      ap (λ (x : StepResult). called true x.state x.log) e
      ∙ ap (λ o. told l (answer_on o r.state r.events)) (sym (only_left r.outcome (ap (λ (x : StepResult). x.outcome) e)))

  -- the halt's event stands behind all else
  pub call_halted : {h : HaltReason} {u : KernelState} {n : Logged} → actual (Err (Halt h)) t m ≡ expected l r → u ≡ halted h t → n ≡ append_event m (event.Halted h) → called false u n ≡ told l (answer r)
  unfolding expected told answer append_events
  call_halted {h = h} {n = n} e hu hn =
      ap (λ x. called false x n) hu ∙ ap (λ x. called false (halted h t) x) hn
      ∙ ap (λ (x : StepResult). called false (halted h x.state) (append_event x.log (event.Halted h))) e
      ∙ ap (λ x. called false (halted h r.state) x) (appended_append l r.events (event.Halted h ∷ []))
      ∙ ap (λ o. told l (answer_on o r.state r.events)) (sym (only_halt h r.outcome (ap (λ (x : StepResult). x.outcome) e)))

  pub call_ended : actual (Err Ended) t m ≡ expected l r → called false t m ≡ told l (answer r)
  unfolding expected told answer
  call_ended e = ap (λ (x : StepResult). called false x.state x.log) e ∙ go r.outcome (ap (λ (x : StepResult). x.outcome) e)
    where
      go : (o : rules.Outcome) → Err Ended ≡ outcome_of o → called false r.state (append_events l r.events) ≡ told l (answer_on o r.state r.events)
      go rules.ran e = different cc
      go rules.left e = different cc
      go (rules.halt h) e = different cc
      go (rules.ended ms) e = refl

-- ---- a pass
-- what is so of each way out of a pass is so of the pass
pass_case : (P : calls.Answer → Type 0) (s : KernelState) → (counts_fit s ≡ true → (n : ℕ) → P (calls.passed n s)) → ((n : ℕ) → P (calls.refuse (101 + n) s)) → P (pass s)
unfolding pass
pass_case P s h g =
    pick_case P _ _ _
    (λ f. pick_case P _ _ _ (λ _. pick_case P _ _ _ (λ _. some_case P _ _ _ (λ n _. h f n) (λ _. g 4)) (λ _. g 3)) (λ _. g 2))
    (λ _. g 1)

-- the lists' counts fit before a pass that is not refused, and so after it
pub pass_fits : (s : KernelState) → is_stay (pass s).did ≡ true → counts_fit (pass s).state ≡ true
unfolding counts_fit
pass_fits s = pass_case (λ a. is_stay a.did ≡ true → counts_fit a.state ≡ true) s (λ f n e. f) (λ n e. absurd (false≢true e))

-- what the answer's number says of the code's answer
number_high : (r : Result (Unit {0}) Refusal) (n : ℕ) → answer_number r ≡ 101 + n → is_err r ≡ true
number_high (Ok v) n e = absurd (omega arith)
number_high (Err r) n e = refl

number_none : (r : Result (Unit {0}) Refusal) → answer_number r ≡ 0 → is_err r ≡ false
number_none (Ok v) e = refl
number_none (Err r) e = absurd (false≢true (rw e at (ran_by (Err r))))

-- r and t are what the code's pass answered and left
module _ (s : KernelState) (r : Result (Unit {0}) Refusal) {t : KernelState} (e : passed r t ≡ returned [] (pass s)) where
  pub pass_goes : false ≡ is_err r → (is_stay (pass s).did ≡ true) × (t ≡ (pass s).state)
  pass_goes =
      pass_case (λ a. passed r t ≡ returned [] a → false ≡ is_err r → (is_stay a.did ≡ true) × (t ≡ a.state)) s
      (λ f n q h. (refl, ap (λ (x : calls.Result). x.state) q))
      (λ n q h. absurd (false≢true (h ∙ number_high r n (ap (λ (x : calls.Result). x.answer) q)))) e

  pub pass_refused : true ≡ is_err r → (is_stay (pass s).did ≡ false) × (t ≡ s)
  pass_refused =
      pass_case (λ a. passed r t ≡ returned [] a → true ≡ is_err r → (is_stay a.did ≡ false) × (t ≡ s)) s
      (λ f n q h. absurd (false≢true (sym (h ∙ number_none r (ap (λ (x : calls.Result). x.answer) q)))))
      (λ n q h. (refl, ap (λ (x : calls.Result). x.state) q)) e
