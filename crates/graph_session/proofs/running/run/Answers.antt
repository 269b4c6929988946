use Rattle.std.proofs.Common.{◌≡◌, ◌+◌, ◌∷◌, ◌++◌, List, drop, ap, sym, subst, ◌∙◌, arith}
use Rattle.std.proofs.lemmas.List.{drop_more}
use Rattle.std.specs.Prelude.{Result, Ok, IfErr, IfOk}
use Rattle.script_lines.specs.declared.command.Command.{Command}
use Rattle.dictionary.specs.AcceptedParts.{AcceptedParts}
use Rattle.graph_session.specs.Refusals.{Refused}
use Rattle.graph_session.specs.Rules.{rules}
use Rattle.graph_session.specs.Run.{IsAfterSome, replies}
use Rattle.graph_session.specs.SessionView.{session_state}
use Rattle.graph_session.specs.Step.{refusal, step}
use Rattle.graph_session.specs.declared.reply.Refusal.{Refusal}
use Rattle.graph_session.specs.declared.reply.Reply.{Reply}
use Rattle.graph_session.proofs.RunLaws.{Follows, either_way, ended_on, follows, same_session_state, same_without_memory, timeline_on}
use Rattle.graph_session.proofs.running.run.Goals as goal

pub returns-then-is_memory-clause-stopped : goal.returns-then-is_memory-clause-stopped
returns-then-is_memory-clause-stopped g c =
    (c.loop-command.command-index, same_without_memory c.loop-command.session c.command-said.new.self c.command-said.result (sym c.is_memory.ensures ∙ c.if-is_memory.true) c.command-said.ensures.unchanged ∙ c.loop-command.invariant.ended)

pub returns-in_err-push-clause-stopped : goal.returns-in_err-push-clause-stopped
returns-in_err-push-clause-stopped g c =
    let r = rules c.args.session.now.dict in
    let s = c.loop-command.session in
    let t = c.command-said.new.self in
    let i = c.loop-command.command-index in
    let x = c.command-item.result in
    let answer = c.command-said.result in
    let ok = subst (λ (k : AcceptedParts). IfOk answer (λ q. step (rules k) (session_state s) x ≡ Ok (q, session_state t))) c.loop-command.invariant.dict c.command-said.ensures.ok in
    let refused = subst (λ (k : AcceptedParts). IfErr answer (λ q. Refused q (refusal (rules k) (session_state s) x))) c.loop-command.invariant.dict c.command-said.ensures.refused in
    let on : Follows r (session_state s) (session_state t) x answer =
    follows r (session_state s) (session_state t) x answer (sym c.is_memory.ensures ∙ c.if-is_memory.false) ok refused (same_session_state s t answer c.command-said.ensures.unchanged) in
    either_way (IsAfterSome r (session_state c.args.session.now) c.args.commands.now (session_state t)) c.from_residual.result
    (i + 1, ended_on r (session_state c.args.session.now) (session_state s) (session_state t) x answer c.args.commands.now i c.loop-command-test.true c.command-item.is c.loop-command.invariant.ended on)

pub loop-command-preserved : goal.loop-command-preserved
loop-command-preserved g c =
    let r = rules c.args.session.now.dict in
    let s = c.loop-command.session in
    let t = c.command-said.new.self in
    let i = c.loop-command.command-index in
    let cs = c.args.commands.now in
    let x = c.command-item.result in
    let answer = c.command-said.result in
    let here : drop i cs ≡ x ∷ drop (i + 1) cs = drop_more cs i x c.loop-command-test.true ∙ ap (λ (y : Command). y ∷ drop (i + 1) cs) (sym c.command-item.is) in
    let ok = subst (λ (k : AcceptedParts). IfOk answer (λ q. step (rules k) (session_state s) x ≡ Ok (q, session_state t))) c.loop-command.invariant.dict c.command-said.ensures.ok in
    let refused = subst (λ (k : AcceptedParts). IfErr answer (λ q. Refused q (refusal (rules k) (session_state s) x))) c.loop-command.invariant.dict c.command-said.ensures.refused in
    let on : Follows r (session_state s) (session_state t) x answer =
    follows r (session_state s) (session_state t) x answer (sym c.is_memory.ensures ∙ c.if-is_memory.false) ok refused (same_session_state s t answer c.command-said.ensures.unchanged) in
    record {
      timeline = ap (λ (l : List (Result Reply Refusal)). l ++ replies r (session_state t) (drop (i + 1) cs)) c.in_ok-push.ensures.items
          ∙ timeline_on c.loop-command.all.items r (session_state s) (session_state t) x answer (drop i cs) (drop (i + 1) cs) here on
          ∙ c.loop-command.invariant.timeline;
      ended = ended_on r (session_state c.args.session.now) (session_state s) (session_state t) x answer cs i c.loop-command-test.true c.command-item.is c.loop-command.invariant.ended on;
      dict = c.command-said.ensures.dict ∙ c.loop-command.invariant.dict;
      few = let now = on.few in omega (arith, now, c.loop-command.invariant.few);
    }
