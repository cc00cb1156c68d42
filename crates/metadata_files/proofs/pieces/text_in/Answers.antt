use Rattle.std.proofs.Common.{sym, ap, ◌∙◌}
use Rattle.std.specs.Prelude.{encode_utf8_all}
use Rattle.std.specs.Str.{chars}
use Rattle.requirement_lines.proofs.ReportLaws.{chars-characters}
use Rattle.metadata_files.proofs.pieces.text_in.Goals as goal

pub returns : goal.returns
returns c = c.text_itself.ensures ∙ ap encode_utf8_all (sym (chars-characters c.args.piece.place (chars c.args.piece.text.now)))
