-- One file more is written, or refused.
use Rattle.std.proofs.Common.{◌≡◌, ◌∙◌, sym, ap, Some, Ok, Err, arith}
use Rattle.vendor_files.specs.declared.file.VendorFile.{VendorFile}
use Rattle.vendor_files.specs.Places.{fit_path}
use Rattle.vendor_files.proofs.PlaceLemmas.{fits_at, named_at}
use Rattle.vendor_files.proofs.WriteLemmas.{one_write, told_more, told_refused}
use Rattle.vendor_files.proofs.write.write_each.Goals as goal

pub atomic_write_file_with_retries-requires : goal.atomic_write_file_with_retries-requires
atomic_write_file_with_retries-requires g c =
    named_at c.args.files.now c.args.paths.now c.loop-number.number c.index-files-number.result
    c.index-paths-number.result c.as_str-path.result.now c.requires.each c.loop-number-test.true c.as_str-path.ensures
    c.index-paths-number.is

pub returns-in-Err-clause-written : goal.returns-in-Err-clause-written
returns-in-Err-clause-written g c =
    let file : VendorFile = c.index-files-number.result in
    let here = g.S.SysState.told c.loop-number.sys in
    let there = g.S.SysState.told c.atomic_write_file_with_retries.new.sys in
    let at : fit_path file.target ≡ Some c.as_str-path.result.now =
    fits_at c.args.files.now c.args.paths.now c.loop-number.number file c.index-paths-number.result
    c.as_str-path.result.now c.requires.each c.loop-number-test.true c.index-files-number.is c.as_str-path.ensures
    c.index-paths-number.is in
    let same : c.as_slice-bytes.result.now ≡ file.bytes =
    c.as_slice-bytes.ensures ∙ ap (λ (f : VendorFile). f.bytes) (sym c.index-files-number.is) in
    told_refused c.args.mode c.args.files.now c.loop-number.number file file c.in-Err.error
    (g.S.SysState.told c.args.sys.now) here there c.loop-number-test.true c.index-files-number.is
    c.loop-number.invariant.tells
    (one_write c.args.mode file c.as_str-path.result.now c.as_slice-bytes.result.now (Err c.in-Err.error) here there at
    same c.in-Err.ensures.law c.in-Err.ensures.calls)

pub loop-number-preserved : goal.loop-number-preserved
loop-number-preserved g c =
    let file : VendorFile = c.index-files-number.result in
    let here = g.S.SysState.told c.loop-number.sys in
    let there = g.S.SysState.told c.atomic_write_file_with_retries.new.sys in
    let at : fit_path file.target ≡ Some c.as_str-path.result.now =
    fits_at c.args.files.now c.args.paths.now c.loop-number.number file c.index-paths-number.result
    c.as_str-path.result.now c.requires.each c.loop-number-test.true c.index-files-number.is c.as_str-path.ensures
    c.index-paths-number.is in
    let same : c.as_slice-bytes.result.now ≡ file.bytes =
    c.as_slice-bytes.ensures ∙ ap (λ (f : VendorFile). f.bytes) (sym c.index-files-number.is) in
    record {
      tells = told_more c.args.mode c.args.files.now c.loop-number.number file file (g.S.SysState.told c.args.sys.now)
          here there c.loop-number-test.true c.index-files-number.is c.loop-number.invariant.tells
          (one_write c.args.mode file c.as_str-path.result.now c.as_slice-bytes.result.now (Ok tt) here there at same
          c.in_default.ensures.law c.in_default.ensures.calls);
      counts = omega (arith, c.loop-number.invariant.counts, c.in_default.ensures.faults);
    }
