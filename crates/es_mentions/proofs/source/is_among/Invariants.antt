-- None so far.
use Rattle.std.specs.List.{list_any}
use Rattle.std.specs.Prelude.{bytes_eq}
use Rattle.std.proofs.Common.{◌≡◌, drop}
use Rattle.es_mentions.proofs.source.is_among.Given as goal

abbrev pub invariant-loop-name : goal.invariant-loop-name
invariant-loop-name l =
    list_any (λ name. bytes_eq name l.text) l.names
    ≡ list_any (λ name. bytes_eq name l.text) (drop l.name-index l.names)
