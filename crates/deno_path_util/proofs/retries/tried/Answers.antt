use Rattle.std.proofs.Common.{◌≡◌, ◌+◌, ◌-◌, ◌*◌, ◌<◌, Ok, Err, suc, refl, sym, ap, subst, arith, rules}
use Rattle.sys_traits.specs.State.{WhereTold}
use Rattle.sys_traits.specs.declared.error.SysErrorKind.TheVariants.{OutOfMemory}
use Rattle.deno_path_util.specs.Course.{IsFault}
use Rattle.deno_path_util.proofs.ToldLemmas.{fault_unless, counted_fault}
use Rattle.deno_path_util.proofs.TriesLemmas.{Before, told_before, told_one_more, told_ended, told_sixth, told_sleepless, last_want}
use Rattle.deno_path_util.proofs.retries.tried.Goals as goal

pub returns-in-Ok-clause-tells : goal.returns-in-Ok-clause-tells
returns-in-Ok-clause-tells g c =
    let more = 5 - c.loop-number.number in
    let at : 6 - c.loop-number.number ≡ suc more = omega arith in
    let here = g.S.SysState.told c.loop-number.sys in
    let h = subst (λ m. WhereTold (Before c.args.path.now c.args.bytes.now c.args.mode m)
    (g.S.SysState.told c.args.sys.now) here) at c.loop-number.invariant.tells in
    told_ended c.args.path.now c.args.bytes.now c.args.mode more (Ok tt) tt _ here _ h c.in-Ok.ensures.tells

pub returns-then-eq-clause-tells : goal.returns-then-eq-clause-tells
returns-then-eq-clause-tells g c =
    let more = 5 - c.loop-number.number in
    let at : 6 - c.loop-number.number ≡ suc more = omega arith in
    let here = g.S.SysState.told c.loop-number.sys in
    let h = subst (λ m. WhereTold (Before c.args.path.now c.args.bytes.now c.args.mode m)
    (g.S.SysState.told c.args.sys.now) here) at c.loop-number.invariant.tells in
    told_ended c.args.path.now c.args.bytes.now c.args.mode more (Err c.in-Err.error)
    (last_want c.in-Err.error.kind (search rules)) _ here _ h c.in-Err.ensures.tells

pub returns-in-Err-thread_sleep_ms-clause-tells : goal.returns-in-Err-thread_sleep_ms-clause-tells
returns-in-Err-thread_sleep_ms-clause-tells g c =
    let more = 5 - c.loop-number.number in
    let at : 6 - c.loop-number.number ≡ suc more = omega arith in
    let here = g.S.SysState.told c.loop-number.sys in
    let fault : IsFault c.in-Err.error.kind =
    fault_unless c.in-Err.error.kind (let h = c.if-eq.false in search rules) in
    let h = subst (λ m. WhereTold (Before c.args.path.now c.args.bytes.now c.args.mode m)
    (g.S.SysState.told c.args.sys.now) here) at c.loop-number.invariant.tells in
    told_sleepless c.args.path.now c.args.bytes.now c.args.mode more (10 * c.loop-number.number) c.in-Err.error
    c.out_of_memory.result fault c.out_of_memory.ensures.kind
    _ here (g.S.SysState.told c.write_file.new.sys) _ h c.in-Err.ensures.tells c.in-Err-thread_sleep_ms.ensures.tells

pub loop-number-preserved : goal.loop-number-preserved
loop-number-preserved g c =
    let more = 5 - c.loop-number.number in
    let at : 6 - c.loop-number.number ≡ suc more = omega arith in
    let next : more ≡ 6 - (c.loop-number.number + 1) = omega arith in
    let start = g.S.SysState.told c.args.sys.now in
    let here = g.S.SysState.told c.loop-number.sys in
    let there = g.S.SysState.told c.thread_sleep_ms.new.self in
    let fault : IsFault c.in-Err.error.kind =
    fault_unless c.in-Err.error.kind (let h = c.if-eq.false in search rules) in
    let h = subst (λ m. WhereTold (Before c.args.path.now c.args.bytes.now c.args.mode m) start here) at
    c.loop-number.invariant.tells in
    let rose : g.S.SysState.faults c.loop-number.sys < g.S.SysState.faults c.write_file.new.sys =
    counted_fault c.in-Err.error.kind _ _ fault c.in-Err.ensures.counts in
    let more_told : WhereTold (Before c.args.path.now c.args.bytes.now c.args.mode more) start there =
    told_one_more c.args.path.now c.args.bytes.now c.args.mode more (10 * c.loop-number.number) c.in-Err.error
    (omega arith) fault
    start here (g.S.SysState.told c.write_file.new.sys) there h c.in-Err.ensures.tells
    c.in-Ok-thread_sleep_ms.ensures.tells in
    record {
      begun = omega arith;
      tells = subst (λ m. WhereTold (Before c.args.path.now c.args.bytes.now c.args.mode m) start there) next more_told;
      counts = omega (arith, c.loop-number.invariant.counts, rose, c.in-Ok-thread_sleep_ms.ensures.counts);
    }

pub returns-clause-tells : goal.returns-clause-tells
returns-clause-tells g c =
    let here = g.S.SysState.told c.loop-number.sys in
    let at : 6 - c.loop-number.number ≡ 0 = omega arith in
    let h = subst (λ m. WhereTold (Before c.args.path.now c.args.bytes.now c.args.mode m)
    (g.S.SysState.told c.args.sys.now) here) at c.loop-number.invariant.tells in
    told_sixth c.args.path.now c.args.bytes.now c.args.mode c.write_file-2.result _ here _ h
    c.write_file-2.ensures.tells
