use Rattle.std.proofs.Common.{◌≡◌, ◌⊎◌, ◌<◌, ◌∙◌, ℕ, cond, nat_eq, ap, sym, subst, arith}
use Rattle.std.specs.Prelude.{true}
use Rattle.head_map.specs.declared.heads.Heads.{Heads}
use Rattle.head_map.specs.Heads.{heads_placed, settled_heads}
use Rattle.row_table.proofs.HandLemmas.{hand_heads, hand_fits, hand_touches, hand_touches_fit, hand_put_room, hands_place}
use Rattle.row_table.proofs.hand.hand_over.Goals as goal

pub move_to-undos-requires-clause-head : goal.move_to-undos-requires-clause-head
move_to-undos-requires-clause-head c = (hand_heads _ _ _ _ _ _ c.requires _ c.get-heads.ensures).undos

pub move_to-undos-requires-clause-room : goal.move_to-undos-requires-clause-room
move_to-undos-requires-clause-room c = omega (arith, hand_fits _ _ _ _ _ _ c.requires _ c.get-heads.ensures)

pub move_to-touches-requires-clause-head : goal.move_to-touches-requires-clause-head
move_to-touches-requires-clause-head c = hand_touches _ _ _ _ _ _ c.requires _ c.get-heads.ensures _ c.move_to-undos.new.to c.move_to-undos.ensures.left

pub move_to-touches-requires-clause-room : goal.move_to-touches-requires-clause-room
move_to-touches-requires-clause-room c = hand_touches_fit _ _ _ _ _ _ c.requires _ c.get-heads.ensures _ c.move_to-undos.new.to c.move_to-undos.ensures.left c.move_to-undos.ensures.used

pub put-requires-2-clause-room : goal.put-requires-2-clause-room
put-requires-2-clause-room c =
    let is = c.new-moved.ensures ∙ (λ i. record { has_value = c.get-heads.result.has_value; undos = c.link.ensures i; touches = c.link-2.ensures i }) in
    subst (λ (x : Heads). (0 < c.args.to_heads.now.spare) ⊎ (heads_placed c.args.to_heads.now.entries c.args.place ≡ settled_heads → x ≡ settled_heads)) (sym is)
    (hand_put_room _ _ _ _ _ _ c.requires _ c.get-heads.ensures _ _ _ _ _ _ c.move_to-undos.ensures.list c.move_to-undos.ensures.left c.move_to-undos.ensures.gained c.move_to-touches.ensures.list c.move_to-touches.ensures.left c.move_to-touches.ensures.gained)

pub returns : goal.returns
returns c =
    let settled = c.new-settled.ensures ∙ (λ i. record { has_value = true; undos = c.none.ensures i; touches = c.none-2.ensures i }) in
    let is = c.new-moved.ensures ∙ (λ i. record { has_value = c.get-heads.result.has_value; undos = c.link.ensures i; touches = c.link-2.ensures i }) in
    let flaw : (p : ℕ) → heads_placed c.put.new.self.entries p ≡ cond (nat_eq p c.args.place) settled_heads (heads_placed c.args.from_heads.now.entries p) =
    λ p. c.put.ensures.heads p ∙ ap (λ (h : Heads). cond (nat_eq p c.args.place) h (heads_placed c.args.from_heads.now.entries p)) settled in
    let glaw : (p : ℕ) → heads_placed c.put-2.new.self.entries p ≡ cond (nat_eq p c.args.place) (record { has_value = c.get-heads.result.has_value; undos = c.move_to-undos.result; touches = c.move_to-touches.result }) (heads_placed c.args.to_heads.now.entries p) =
    λ p. c.put-2.ensures.heads p ∙ ap (λ (h : Heads). cond (nat_eq p c.args.place) h (heads_placed c.args.to_heads.now.entries p)) is in
    hands_place _ _ _ _ _ _ c.requires _ c.get-heads.ensures _ _ _ _ _ _ c.move_to-undos.ensures.list c.move_to-undos.ensures.left c.move_to-undos.ensures.gained c.move_to-touches.ensures.list c.move_to-touches.ensures.left c.move_to-touches.ensures.gained
    _ _ flaw glaw (c.put.ensures.kept (λ _. settled)) c.move_to-undos.ensures.spare c.move_to-touches.ensures.spare c.move_to-undos.ensures.used c.move_to-touches.ensures.used c.put-2.ensures.spare (λ stays. c.put-2.ensures.kept (λ e. is ∙ stays e))
