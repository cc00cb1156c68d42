use Rattle.std.proofs.Common.{refl}
use Rattle.version_ranges.proofs.Turns.{joins, is_there, keys_join, keys_stay, found_key}
use Rattle.version_ranges.proofs.gather.place_of.Goals as goal

pub returns-in_ok-push-clause-pairs : goal.returns-in_ok-push-clause-pairs
returns-in_ok-push-clause-pairs g c = joins (λ q. q.0) (λ k. g.V.PartialEq.eq c.args.value.now k.now) _ _ _ c.requires c.in-Ok.ensures.added _ _ c.if-added.true c.in_ok-push.ensures.items

pub returns-in_ok-push-clause-found : goal.returns-in_ok-push-clause-found
returns-in_ok-push-clause-found g c =
    found_key (λ q. q.0) (λ k. g.V.PartialEq.eq c.args.value.now k.now) _ _ _
    (keys_join (λ q. q.0) (λ k. g.V.PartialEq.eq c.args.value.now k.now) _ _ _ c.requires c.in-Ok.ensures.added _ _ _ _ c.if-added.true c.in-Ok.ensures.keys c.in_ok-push.ensures.items refl) c.in-Ok.ensures.stored

pub returns-else-added-clause-pairs : goal.returns-else-added-clause-pairs
returns-else-added-clause-pairs g c = is_there (λ q. q.0) (λ k. g.V.PartialEq.eq c.args.value.now k.now) _ _ _ c.requires c.in-Ok.ensures.added _ c.if-added.false

pub returns-else-added-clause-found : goal.returns-else-added-clause-found
returns-else-added-clause-found g c =
    found_key (λ q. q.0) (λ k. g.V.PartialEq.eq c.args.value.now k.now) _ _ _
    (keys_stay (λ q. q.0) (λ k. g.V.PartialEq.eq c.args.value.now k.now) _ _ _ c.requires c.in-Ok.ensures.added _ _ c.if-added.false c.in-Ok.ensures.keys) c.in-Ok.ensures.stored
