-- `batch::run` meets its contract, by the laws of `Batch`. Assumes nothing.
use mathlib.Core.Path.{refl, sym}
use native.Mathlib.Omega.{arith}
use Rattle.std.proofs.Common.{◌≡◌, ◌+◌, ◌-◌, rules}
use Rattle.batch.proofs.Calls.{pass_goes, pass_refused}
use Rattle.batch.proofs.Batch.{run_refused, sofar_none, made, named, raised_more, lender_is, last_pass, last_over, last_full, last_refused, sofar_more}
use Rattle.batch.proofs.run.Goals as goal
use Rattle.batch.proofs.run.Goals.{else-loop-test, then-loop-test+then-not-stays, then-not-stays-via-then-not-stays, then-not-stays-via-else-not-stays+then-not-has_room, then-not-stays-via-else-not-stays+else-not-has_room+then-is_err}

pub returns-in-Err : goal.returns-in-Err
returns-in-Err c = run_refused _ _ _ _ _ _ _ c.in-Err.ensures

pub loop-init : goal.loop-init
loop-init c =
    let runs = sym c.in_default.ensures in
    let none = sofar_none c.args.cfg.now c.args.rows.now c.args.log.now _ c.args.passes c.args.state runs in
    let all : c.args.passes - 0 ≡ c.args.passes = omega arith in
    rw all
    (named (lender_is _ _ _ _ _ _ runs (omega arith) none c.call-stays.ensures) (made _ _ _ _ _ _ none c.call-stays.ensures refl))

pub loop-preserved : goal.loop-preserved
loop-preserved c =
    let M = c.loop.invariant in
    let went = pass_goes _ _ c.pass.ensures c.if-is_err.ensures.value in
    let left : c.args.passes - (c.loop.counter + 1) ≡ c.args.passes - c.loop.counter - 1 = omega arith in
    rw left
    (made _ _ _ _ _ _
    (sofar_more _ _ _ _ _ _ (sym c.in_default.ensures) (omega arith) M.calls M.call c.if-not-stays.false c.if-not-has_room.ensures went.0 (omega arith) went.1)
    c.call-stays-in-loop.ensures refl)

pub overflow_sub-result : goal.overflow_sub-result
overflow_sub-result c =
    let M = c.loop.invariant in
    omega (arith, raised_more _ _ _ _ _ _ (sym c.in_default.ensures) (omega arith) M.calls M.call, M.counted)

pub returns : goal.returns
returns c =
    let runs = sym c.in_default.ensures in
    let M = c.loop.invariant in
    let none = sofar_none c.args.cfg.now c.args.rows.now c.args.log.now _ c.args.passes c.args.state runs in
    let lent = lender_is _ _ _ _ _ _ runs (omega arith) none c.call-stays.ensures in
    let lender = lender_is _ _ _ _ _ _ runs (omega arith) M.calls M.call in
    elim c.loop-test.branch [
      | else-loop-test w ↦ last_pass _ _ _ _ _ _ runs (omega arith) M.calls M.call M.counted w.state-is (search rules) (omega arith)
      | then-loop-test+then-not-stays w ↦ rw w.state-is
          (elim w.then-not-stays.branch [
            | then-not-stays-via-then-not-stays v ↦ last_over _ _ _ _ _ _ runs (omega arith) M.calls M.call M.counted v.state-is (search rules) v.if-not-stays.true
            | then-not-stays-via-else-not-stays+then-not-has_room v ↦ last_full _ _ _ _ _ _ runs (omega arith) M.calls M.call M.counted v.state-is (search rules) v.if-not-has_room.ensures
            | then-not-stays-via-else-not-stays+else-not-has_room+then-is_err v ↦
                let refused = pass_refused _ _ v.pass.ensures v.if-is_err.ensures.value in
                rw v.state-is (last_refused _ _ _ _ _ _ runs (omega arith) M.calls M.call M.counted refused.1 (search rules) refused.0)
          ])
    ]
