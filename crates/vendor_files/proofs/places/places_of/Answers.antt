-- One file more goes to a path of its own, or is the first that can't.
use Rattle.std.proofs.Common.{rules, ◌≡◌, true, false}
use Rattle.vendor_files.specs.Places.{IsNext}
use Rattle.vendor_files.proofs.PlaceLemmas.{placed_more, unfit_here}
use Rattle.vendor_files.proofs.places.places_of.Goals as goal

pub returns-then-not-fits : goal.returns-then-not-fits
returns-then-not-fits c =
    let no : c.in_ok-fits.fits ≡ false = search rules in
    unfit_here c.args.files.now c.loop-file.file-index c.file-item.result c.file-item.result c.loop-file.paths.keys _
    c.loop-file-test.true c.file-item.is c.loop-file.invariant (rw no at c.in_ok-fits.ensures)
    c.in_ok-clone.ensures.cases

pub loop-file-preserved : goal.loop-file-preserved
loop-file-preserved c =
    let yes : c.in_ok-fits.fits ≡ true = search rules in
    let next : IsNext c.loop-file.paths.keys c.file-item.result.target true c.place_next.new.paths.keys =
    rw yes at c.in_ok-fits.ensures in
    placed_more c.args.files.now c.loop-file.file-index c.file-item.result c.file-item.result c.loop-file.paths.keys
    c.place_next.new.paths.keys next.0 c.loop-file-test.true c.file-item.is c.loop-file.invariant next.1 next.2 next.3
