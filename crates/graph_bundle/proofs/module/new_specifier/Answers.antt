-- The specifier is one of the earlier modules', or it is new.
use Rattle.std.proofs.Common.{◌≡◌, sym, ◌∙◌, ap, Err, codes}
use Rattle.serde_json.specs.View.{view}
use Rattle.graph_builder.specs.ByText.{keys_at}
use Rattle.import_map.specs.json_reading.Reading.{required, url_of}
use Rattle.graph_bundle.proofs.BundleLemmas.{repeated, unrepeated}
use Rattle.graph_bundle.proofs.module.new_specifier.Goals as goal

pub returns-then-is_seen : goal.returns-then-is_seen
returns-then-is_seen c =
    ap Err c.in_ok-pointer.ensures
    ∙ sym (repeated (keys_at c.args.seen.now) (required url_of (codes "specifier") (view c.args.value.now))
    c.in-Ok.specifier (sym c.in_ok-specifier.ensures ∙ c.in-Ok.is) (sym c.is_seen.ensures ∙ c.if-is_seen.true))

pub returns : goal.returns
returns c =
    sym (unrepeated (keys_at c.args.seen.now) (required url_of (codes "specifier") (view c.args.value.now))
    c.in-Ok.specifier (sym c.in_ok-specifier.ensures ∙ c.in-Ok.is) (sym c.is_seen.ensures ∙ c.if-is_seen.false))
