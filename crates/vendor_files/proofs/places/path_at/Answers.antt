-- The path of a URL that has one, or none.
use Rattle.std.proofs.Common.{◌∙◌, sym, ap, Some}
use Rattle.lexical_path.specs.Paths.{normal_path}
use Rattle.vendor_files.proofs.PlaceLemmas.{path_is, path_none}
use Rattle.vendor_files.proofs.places.path_at.Goals as goal

pub returns-in-Ok : goal.returns-in-Ok
returns-in-Ok c =
    ap Some (c.in_ok-normalized-in-Ok.ensures ∙ ap normal_path c.in-Ok.ensures.1)
    ∙ sym (path_is c.args.url.now c.in-Ok.ensures.0)

pub returns-in-Err-Url : goal.returns-in-Err-Url
returns-in-Err-Url c =
    let none = rw c.in-Err-Url.field-0-is at c.in-Err-Url.ensures in sym (path_none c.args.url.now none.1)
