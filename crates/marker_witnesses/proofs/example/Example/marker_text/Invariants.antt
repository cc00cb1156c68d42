-- The comparisons so far are written.
use Rattle.std.proofs.Common.{◌≡◌, [], map, take, string_bytes, codes}
use Rattle.marker_walks.specs.Keys.{key_name}
use Rattle.marker_witnesses.specs.Text.{all_after, comparison, extra_comparisons, key_comparisons, value_of}
use Rattle.marker_witnesses.proofs.example.Example.marker_text.Given as goal

abbrev pub invariant-loop-key : goal.invariant-loop-key
invariant-loop-key l = string_bytes l.output ≡ all_after [] (map (λ key. comparison (key_name key) (codes "==") (value_of l.self key)) (take l.key-index l.self.keys.items))

abbrev pub invariant-loop-extra : goal.invariant-loop-extra
invariant-loop-extra l = string_bytes l.output ≡ all_after (all_after [] (key_comparisons l.self)) (map (λ name. comparison (codes "extra") (codes "==") name) (take l.extra-index l.self.extras.items))

abbrev pub invariant-loop-name : goal.invariant-loop-name
invariant-loop-name l = string_bytes l.output
    ≡ all_after (all_after (all_after [] (key_comparisons l.self)) (extra_comparisons (codes "==") l.self.extras.items)) (map (λ name. comparison (codes "extra") (codes "!=") name) (take l.name-index l.self.without.items))
