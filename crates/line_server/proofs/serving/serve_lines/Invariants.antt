use Rattle.std.proofs.Common.{◌≡◌, [], length, List, ℕ}
use Rattle.std.specs.Io.KnownBytes.{Appends, Consumes}
use Rattle.line_server.specs.Serving.{Serves}
use Rattle.line_server.proofs.serving.serve_lines.Given as goal

abbrev pub invariant-loop-count : goal.invariant-loop-count
invariant-loop-count g l = record {
  served : (input : List ℕ) × (output : List ℕ) × Consumes (g.R.Source.remaining l.fn.source) (g.R.Source.remaining l.source) input
      × Appends (g.W.Sink.contents l.fn.sink) (g.W.Sink.contents l.sink) output
      × Serves g.A.Answer.step l.fn.answerer [] input output l.answerer l.held.items;
  emptied : l.replies.items ≡ [];
  room : length l.buffer ≡ 8192;
  input_sound : g.R.Source.has_failed l.source ≡ g.R.Source.has_failed l.fn.source;
  output_sound : g.W.Sink.has_failed l.sink ≡ g.W.Sink.has_failed l.fn.sink;
}

abbrev pub decreases-loop-count : goal.decreases-loop-count
decreases-loop-count g l = g.R.Source.reads_left l.source
