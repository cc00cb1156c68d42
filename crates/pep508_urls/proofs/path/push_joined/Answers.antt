use Rattle.std.proofs.Common.{◌≡◌, ◌++◌, ◌∷◌, ℕ, List, map, take, string_bytes, sym, ap, ◌∙◌, append_assoc, rules, arith, Bor}
use Rattle.std.specs.List.{flat_map, join_with_byte}
use Rattle.std.proofs.lemmas.List.{take_all}
use Rattle.pep508_urls.proofs.PathLaws.{join_is}
use Rattle.pep508_urls.proofs.path.push_joined.Goals as goal

pub returns : goal.returns
returns c =
    let others : List (Bor (List ℕ)) = c.in-Some.others.now in
    let whole : c.args.parts.now ≡ c.in-Some.first.now ∷ others = search rules in
    let all : take c.loop-part.part-index others ≡ others = take_all c.loop-part.part-index others (omega arith) in
    c.loop-part.invariant
    ∙ ap (λ (x : List (Bor (List ℕ))). string_bytes c.push_str.new.self ++ flat_map (λ part. 47 ∷ part.now) x) all
    ∙ ap (λ (x : List ℕ). x ++ flat_map (λ part. 47 ∷ part.now) others) c.in_ok-push_str.ensures.bytes
    ∙ append_assoc (string_bytes c.args.text.now) c.in-Some.first.now.now (flat_map (λ part. 47 ∷ part.now) others)
    ∙ ap (λ (x : List ℕ). string_bytes c.args.text.now ++ x) (sym (join_is (λ part. part.now) 47 c.in-Some.first.now others) ∙ ap (λ (x : List (Bor (List ℕ))). join_with_byte 47 (map (λ part. part.now) x)) (sym whole))
