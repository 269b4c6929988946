-- What one command's contract says of a run.
use Rattle.std.proofs.Common.{◌≡◌, ℕ, ◌+◌, ◌<◌, ◌≤◌, true, false, List, [], ◌∷◌, ◌++◌, append_assoc, length, take, get_or, Option, Some, None, refl, sym, ap, ◌∙◌, arith}
use Rattle.std.proofs.lemmas.List.{take_more}
use Rattle.std.specs.Prelude.{IfErr, IfOk, OnErr, Result, Ok, Err}
use Rattle.script_lines.specs.declared.command.Command.{Command}
use Rattle.session_undo.specs.Timeline.{Timeline}
use Rattle.graph_session.specs.Refusals.{Refused, decided}
use Rattle.graph_session.specs.Rules.{Rules, tree_of}
use Rattle.graph_session.specs.Run.{ended, is_memory, memory_said, next, replies, said}
use Rattle.graph_session.specs.SessionView.{SessionState, SessionView, session_state}
use Rattle.graph_session.specs.Step.{moved_by, refusal, reply, step, timeline_by}
use Rattle.graph_session.specs.declared.reply.Refusal.{Refusal}
use Rattle.graph_session.specs.declared.reply.Refusal.TheVariants.{NoMemory}
use Rattle.graph_session.specs.declared.reply.Reply.{Reply}

defined : (r : Refusal) (o : Option Refusal) → is_memory r ≡ false → Refused r o → o ≡ Some r
defined NoMemory o m h = absurd cc
defined r o m h = h

-- a refusal other than want of memory is the step's
pub refused_step : (k : Rules) (s : SessionState) (c : Command) (r : Refusal) → is_memory r ≡ false → Refused r (refusal k s c) → step k s c ≡ Err r
refused_step k s c r m h = ap (λ (o : Option Refusal). decided o (reply k s c, moved_by k s (timeline_by (tree_of k) s.timeline c))) (defined r (refusal k s c) m h)

-- an accepted command makes one change at most
moved_count : (k : Rules) (s : SessionState) (o : Option Timeline) → (moved_by k s o).changes ≤ s.changes + 1
moved_count k s None = omega arith
moved_count k s (Some t) = omega arith

decided_as : {A : Type 0} (o : Option Refusal) (x y : A) → decided o x ≡ Ok y → x ≡ y
decided_as None x y e = cc
decided_as (Some r) x y e = absurd cc

pub step_count : (k : Rules) (s : SessionState) (c : Command) (r : Reply) (t : SessionState) → step k s c ≡ Ok (r, t) → t.changes ≤ s.changes + 1
step_count k s c r t e =
    let same = decided_as (refusal k s c) (reply k s c, moved_by k s (timeline_by (tree_of k) s.timeline c)) (r, t) e in
    let count : (moved_by k s (timeline_by (tree_of k) s.timeline c)).changes ≡ t.changes = ap (λ (p : Reply × SessionState). p.1.changes) same in
    omega (arith, moved_count k s (timeline_by (tree_of k) s.timeline c), count)

-- ---- one command of a run

-- what was answered is the step's answer, and the session goes on from where the step leaves it
pub record Follows (k : Rules) (s t : SessionState) (c : Command) (answer : Result Reply Refusal) : Type 0 where
  pub timeline : answer ≡ said (step k s c)
  pub session : t ≡ next s (step k s c)
  pub few : t.changes ≤ s.changes + 1

pub follows : (k : Rules) (s t : SessionState) (c : Command) (answer : Result Reply Refusal) → memory_said answer ≡ false
    → IfOk answer (λ r. step k s c ≡ Ok (r, t)) → IfErr answer (λ r. Refused r (refusal k s c)) → OnErr answer (t ≡ s) → Follows k s t c answer
follows k s t c (Ok r) m ok err same = record { timeline = ap said (sym ok); session = ap (next s) (sym ok); few = step_count k s c r t ok }
follows k s t c (Err r) m ok err same =
    let step_is = refused_step k s c r m err in
    let count : t.changes ≡ s.changes = ap (λ (u : SessionState). u.changes) same in
    record { timeline = ap said (sym step_is); session = same ∙ ap (next s) (sym step_is); few = omega (arith, count) }

pub timeline_on : (all : List (Result Reply Refusal)) (k : Rules) (s t : SessionState) (c : Command) (answer : Result Reply Refusal) (cs rest : List Command) → cs ≡ c ∷ rest → Follows k s t c answer
    → (all ++ answer ∷ []) ++ replies k t rest ≡ all ++ replies k s cs
timeline_on all k s t c answer cs rest e f =
    append_assoc all (answer ∷ []) (replies k t rest)
    ∙ ap (λ (l : List (Result Reply Refusal)). all ++ l) (both ∙ ap (replies k s) (sym e))
  where
    both : answer ∷ replies k t rest ≡ said (step k s c) ∷ replies k (next s (step k s c)) rest
    both = λ i. f.timeline i ∷ replies k (f.session i) rest

ended_more : (k : Rules) (s : SessionState) (cs : List Command) (c : Command) → ended k s (cs ++ c ∷ []) ≡ next (ended k s cs) (step k (ended k s cs) c)
ended_more k s [] c = refl
ended_more k s (x ∷ xs) c = ended_more k (next s (step k s x)) xs c

-- one command further
pub ended_on : (k : Rules) (first s t : SessionState) (c : Command) (answer : Result Reply Refusal) (cs : List Command) (i : ℕ) → i < length cs → c ≡ get_or cs i c → s ≡ ended k first (take i cs) → Follows k s t c answer
    → t ≡ ended k first (take (i + 1) cs)
ended_on k first s t c answer cs i low is e f =
    f.session
    ∙ ap (λ (u : SessionState). next u (step k u c)) e
    ∙ sym (ended_more k first (take i cs) c)
    ∙ sym (ap (ended k first) (take_more cs i c low ∙ ap (λ (x : Command). take i cs ++ x ∷ []) (sym is)))

-- where memory was wanting, the state is as before
pub same_without_memory : (s t : SessionView) (answer : Result Reply Refusal) → memory_said answer ≡ true → OnErr answer (t ≡ s) → session_state t ≡ session_state s
same_without_memory s t (Ok r) m h = absurd cc
same_without_memory s t (Err r) m h = ap session_state h

-- after a refusal the state is as before, where the session is
pub same_session_state : (s t : SessionView) (answer : Result Reply Refusal) → OnErr answer (t ≡ s) → OnErr answer (session_state t ≡ session_state s)
same_session_state s t (Ok r) h = tt
same_session_state s t (Err r) h = ap session_state h

pub either_way : {T E : Type 0} (P : Type 0) (r : Result T E) → P → OnErr r P
either_way P (Ok x) h = tt
either_way P (Err e) h = h
