use Rattle.std.proofs.Common.{◌≡◌, ◌<◌, length, get_or, ◌∙◌, rules}
use Rattle.std.specs.Option.{option_map}
use Rattle.requirement_lines.specs.Pieces.{characters_of}
use Rattle.requirement_findings.proofs.MetadataLaws.{fields_begin, fields_more, fields_none_left, fields_ended, is_some-map}
use Rattle.requirement_findings.proofs.metadata.check_metadata.Goals as goal

pub loop-index-preserved : goal.loop-index-preserved
loop-index-preserved g c =
    let checks = g.C.CheckLines.checks_text in
    let finds = g.C.CheckLines.finds in
    let fields = c.in_ok-headers.headers.fields.items in
    let lt : c.loop-index.index < length c.in_ok-headers.headers.fields.items = search rules in
    let here : get_or c.in_ok-headers.headers.fields.items c.loop-index.index c.index.result.now ≡ c.index.result.now = search rules in
    fields_more checks finds (record { field = c.index.result.now; checked = c.in_ok-checked.checked }) c.loop-index.invariant (fields_begin fields c.loop-index.index c.index.result.now lt here) c.in_ok-checked.ensures c.in_ok-push.ensures.items

pub returns : goal.returns
returns g c = record {
  fields = c.in_ok-headers.headers.fields.items;
  last = option_map characters_of c.in_ok-headers.headers.stray;
  headers = c.in_ok-headers.ensures;
  each = fields_ended g.C.CheckLines.checks_text g.C.CheckLines.finds c.loop-index.invariant (fields_none_left c.in_ok-headers.headers.fields.items c.loop-index.index (search rules));
  stray = c.in_ok-stray.ensures ∙ is_some-map characters_of c.in_ok-headers.headers.stray;
}
