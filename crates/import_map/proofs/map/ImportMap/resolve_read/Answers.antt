use Rattle.std.proofs.Common.{◌∙◌, ap, sym}
use Rattle.std.specs.Option.{option_copied}
use Rattle.import_map.proofs.TableLemmas.{match_begins}
use Rattle.import_map.proofs.map.ImportMap.resolve_read.Goals as goal

pub led_by-requires : goal.led_by-requires
led_by-requires c =
    rw c.as_str-in-Some.ensures
    (match_begins c.args.self.now _ c.text_or-text.result.now _ c.in-Some.found.now
    (sym c.match_of.ensures ∙ ap option_copied c.in-Some.is))
