-- Nor does what is asked for of a refused word change what the core does: after each cycle its
-- entries are the same, once that is struck out.
use Rattle.std.proofs.Common.{◌≡◌, ◌&&◌, ◌||◌, ℕ, Bool, true, false, if◌then◌else◌, Option, Some, None, List, [], ◌∷◌, map, refl, sym, ap, ap₂, ◌∙◌}
use Rattle.std.specs.Prelude.{find, is_some, nat_le}
use Rattle.std.specs.Option.{option_or, option_map}
use Rattle.std.proofs.lemmas.List.{map-append, take-map, drop-map}
use Rattle.rv32_table.specs.Instr.{rd_field}
use Rattle.xif_image.specs.Region.{word_at}
use Rattle.inorder_machine.specs.declared.line.Stepped.{Stepped}
use Rattle.inorder_machine.specs.declared.line.Stepped.TheVariants.{Retired, Stop}
use Rattle.inorder_machine.specs.Units.{unit_write}
use Rattle.xif_signals.specs.declared.bus.Bus.{Bus}
use Rattle.xif_signals.specs.declared.bus.CopOut.{CopOut}
use Rattle.xif_signals.specs.Bus.{join_of}
use Rattle.xif_session.specs.declared.fact.Response.{Response}
use Rattle.xif_session.specs.Facts.{is_issued, is_given, is_taken, response_on}
use Rattle.cycle_spec.specs.declared.choices.Choices.{Choices}
use Rattle.cycle_spec.specs.declared.choices.Executed.{Executed}
use Rattle.cycle_spec.specs.declared.choices.Presented.{Presented}
use Rattle.cycle_spec.specs.declared.entry.Entry.{Entry}
use Rattle.cycle_spec.specs.declared.log.Cut.{Cut}
use Rattle.cycle_spec.specs.Flight.{has_seq, holds_id, with_response, with_sent, with_release, with_result, with_outcome, free_id}
use Rattle.cycle_spec.specs.Turns.{transactions_after}
use Rattle.cycle_spec.specs.State.{Core}
use Rattle.cycle_spec.specs.Choices.{choices}
use Rattle.cycle_spec.specs.Core.{id_in, word_in, presented_id, presented_lane, presented_flags, cpu_out, core_accepts, response_on_offer, sent_on_present, release_step, cut_step, drain_step, result_for, execute_step, retire_step, sent_step, result_step, answered_entries, sent_entries, released_entries, kept_entries, finished_entries, executed_entries, settled_entries, registers_behind, memory_behind, pc_behind, ahead_behind, entry_at, next_entry, dispatch_of, with_dispatch, seq_after, ahead_after, mode_after, present_owner, result_owner_on, core_after, core_clock}
use Rattle.cycle_spec.specs.Cycle.{for_hart, for_core}
use Rattle.trace_laws.specs.Driven.{bus_with, seen_with}
use Rattle.core_laws.proofs.Plain.{plain_response, plain_answer, plain, plain_core, plain_executed, plain_presented, plain_choices, find-map, accepted-plain, choices-plain, free-plain}

abbrev pub plain_cop : CopOut → CopOut
plain_cop cop = record cop { issue_register_read = if cop.issue_accept then cop.issue_register_read else 0 }

abbrev pub plain_bus : Bus → Bus
plain_bus b = record b { issue_register_read = if b.issue_accept then b.issue_register_read else 0 }

-- a change of each entry
map-twice : (f g : Entry → Entry) → ((x : Entry) → f (plain x) ≡ plain (g x)) → (es : List Entry) → map f (map plain es) ≡ map plain (map g es)
map-twice f g k [] = refl
map-twice f g k (x ∷ xs) = ap₂ (λ y ys. y ∷ ys) (k x) (map-twice f g k xs)

-- ---- the steps

response-one : (s : ℕ) (r : Response) (x : Entry) → with_response s (plain_response r) (plain x) ≡ plain (with_response s r x)
response-one s r x = ap (λ o. record (with_response s r x) { response = o }) (go (has_seq s x))
  where
    go : (t : Bool) → (if t then Some (plain_response r) else plain_answer x.response) ≡ plain_answer (if t then Some r else x.response)
    go true = refl
    go false = refl

release-one : (s : ℕ) (x : Entry) → with_release s (plain x) ≡ plain (with_release s x)
release-one s x = ap (λ b. record (plain x) { released = x.released || (nat_le x.seq s && b) }) (accepted-plain x.response)

module _ (ch : Choices) (b : Bus) where
  answered : (es : List Entry) → answered_entries (plain_choices ch) (plain_bus b) (map plain es) ≡ map plain (answered_entries ch b es)
  answered es = go (is_issued b) ch.offer
    where
      go : (t : Bool) (o : Option Entry) → (if t then response_on_offer (option_map plain o) (plain_bus b) (map plain es) else map plain es) ≡ map plain (if t then response_on_offer o b es else es)
      go false o = refl
      go true None = refl
      go true (Some e) = map-twice (with_response e.seq (plain_response (response_on b))) (with_response e.seq (response_on b)) (response-one e.seq (response_on b)) es

  sent : (es : List Entry) → sent_entries (plain_choices ch) (plain_bus b) (map plain es) ≡ map plain (sent_entries ch b es)
  sent es = ap (sent_step (option_map plain_presented ch.present) b) (answered es) ∙ go (is_given b) ch.present
    where
      given : List Entry
      given = answered_entries ch b es

      go : (t : Bool) (o : Option Presented) → (if t then sent_on_present (option_map plain_presented o) (map plain given) else map plain given) ≡ map plain (if t then sent_on_present o given else given)
      go false o = refl
      go true None = refl
      go true (Some x) = map-twice (with_sent x.entry.seq) (with_sent x.entry.seq) (λ x. refl) given

  released : (es : List Entry) → released_entries (plain_choices ch) (plain_bus b) (map plain es) ≡ map plain (released_entries ch b es)
  released es = ap (release_step (option_map plain ch.release)) (sent es) ∙ go ch.release
    where
      go : (o : Option Entry) → release_step (option_map plain o) (map plain (sent_entries ch b es)) ≡ map plain (release_step o (sent_entries ch b es))
      go None = refl
      go (Some e) = map-twice (with_release e.seq) (with_release e.seq) (release-one e.seq) (sent_entries ch b es)

  cut-one : (o : Option Cut) (es : List Entry) → cut_step o (map plain es) ≡ map plain (cut_step o es)
  cut-one None es = refl
  cut-one (Some c) es = take-map plain c.keep es

  drain-one : (o : Option ℕ) (es : List Entry) → drain_step o (map plain es) ≡ map plain (drain_step o es)
  drain-one None es = refl
  drain-one (Some n) es = take-map plain n es

  kept : (es : List Entry) → kept_entries (plain_choices ch) (plain_bus b) (map plain es) ≡ map plain (kept_entries ch b es)
  kept es = ap (λ l. drain_step ch.drain (cut_step ch.cut l)) (released es) ∙ ap (drain_step ch.drain) (cut-one ch.cut (released_entries ch b es)) ∙ drain-one ch.drain (cut_step ch.cut (released_entries ch b es))

  finished : (es : List Entry) → finished_entries (plain_choices ch) (plain_bus b) (map plain es) ≡ map plain (finished_entries ch b es)
  finished es = ap (result_step (plain_bus b)) (kept es) ∙ go (is_taken b)
    where
      ks : List Entry
      ks = kept_entries ch b es

      by : (o : Option Entry) → result_for (option_map plain o) (plain_bus b) (map plain ks) ≡ map plain (result_for o b ks)
      by None = refl
      by (Some e) = let w = with_result e.seq (unit_write (rd_field e.word) b.result_we b.result_data) in map-twice w w (λ x. refl) ks

      go : (t : Bool) → (if t then result_for (find (holds_id b.result_id) (map plain ks)) (plain_bus b) (map plain ks) else map plain ks) ≡ map plain (if t then result_for (find (holds_id b.result_id) ks) b ks else ks)
      go false = refl
      go true = ap (λ o. result_for o (plain_bus b) (map plain ks)) (find-map (holds_id b.result_id) plain (λ x. refl) ks) ∙ by (find (holds_id b.result_id) ks)

  outcome-one : (s : ℕ) (o : Stepped) (x : Entry) → with_outcome s o (plain x) ≡ plain (with_outcome s o x)
  outcome-one s (Retired line) x = refl
  outcome-one s (Stop cause) x = refl

  executed : (es : List Entry) → executed_entries (plain_choices ch) (plain_bus b) (map plain es) ≡ map plain (executed_entries ch b es)
  executed es = ap (execute_step (option_map plain_executed ch.execute)) (finished es) ∙ go ch.execute
    where
      go : (o : Option Executed) → execute_step (option_map plain_executed o) (map plain (finished_entries ch b es)) ≡ map plain (execute_step o (finished_entries ch b es))
      go None = refl
      go (Some x) = map-twice (with_outcome x.entry.seq x.outcome) (with_outcome x.entry.seq x.outcome) (outcome-one x.entry.seq x.outcome) (finished_entries ch b es)

  settled : (es : List Entry) → settled_entries (plain_choices ch) (plain_bus b) (map plain es) ≡ map plain (settled_entries ch b es)
  settled es = ap (retire_step (option_map plain ch.retire)) (executed es) ∙ go ch.retire
    where
      go : (o : Option Entry) → retire_step (option_map plain o) (map plain (executed_entries ch b es)) ≡ map plain (retire_step o (executed_entries ch b es))
      go None = refl
      go (Some e) = drop-map plain 1 (executed_entries ch b es)

-- ---- a cycle

module _ (answer : (pc word : ℕ) → ℕ) (w : Core) (ch : Choices) (b : Bus) where
  next : next_entry answer (plain_core w) (plain_choices ch) ≡ next_entry answer w ch
  next = go ch.retire
    where
      go : (o : Option Entry) → entry_at answer w.next_seq (free_id (map plain w.flight)) (ahead_behind ch.cut w.ahead) (word_at (memory_behind (option_map plain o) w.memory) (ahead_behind ch.cut w.ahead))
          ≡ entry_at answer w.next_seq (free_id w.flight) (ahead_behind ch.cut w.ahead) (word_at (memory_behind o w.memory) (ahead_behind ch.cut w.ahead))
      go None = ap (λ n. entry_at answer w.next_seq n (ahead_behind ch.cut w.ahead) (word_at w.memory (ahead_behind ch.cut w.ahead))) (free-plain w.flight)
      go (Some e) = ap (λ n. entry_at answer w.next_seq n (ahead_behind ch.cut w.ahead) (word_at (memory_behind (Some e) w.memory) (ahead_behind ch.cut w.ahead))) (free-plain w.flight)

  new : dispatch_of answer (plain_core w) (plain_choices ch) ≡ dispatch_of answer w ch
  new = ap (λ e. if ch.dispatch then Some e else None) next

  flight : with_dispatch (dispatch_of answer (plain_core w) (plain_choices ch)) (settled_entries (plain_choices ch) (plain_bus b) (map plain w.flight)) ≡ map plain (with_dispatch (dispatch_of answer w ch) (settled_entries ch b w.flight))
  flight = ap₂ with_dispatch new (settled ch b w.flight) ∙ go ch.dispatch
    where
      ss : List Entry
      ss = settled_entries ch b w.flight

      go : (t : Bool) → with_dispatch (if t then Some (next_entry answer w ch) else None) (map plain ss) ≡ map plain (with_dispatch (if t then Some (next_entry answer w ch) else None) ss)
      go false = refl
      go true = sym (map-append plain ss (next_entry answer w ch ∷ []))

  core-plain : core_after answer (plain_core w) (plain_choices ch) (plain_bus b) ≡ plain_core (core_after answer w ch b)
  core-plain = λ i. record {
    params = w.params;
    script = w.script;
    window = w.window;
    flight = flight i;
    next_seq = seq_after (new i) w.next_seq;
    registers = registers i;
    memory = memory i;
    pc = pc i;
    ahead = ahead_after (new i) (ahead_behind ch.cut w.ahead);
    stopped = option_or ch.stop w.stopped;
    mode = mode_after w.mode;
    register_turns = transactions_after w.register_turns (owner i) b.register_ready;
    result_turns = transactions_after w.result_turns (result_owner_on b) b.result_ready;
  }
    where
      registers : registers_behind (option_map plain ch.retire) w.registers ≡ registers_behind ch.retire w.registers
      registers = go ch.retire
        where
          go : (o : Option Entry) → registers_behind (option_map plain o) w.registers ≡ registers_behind o w.registers
          go None = refl
          go (Some e) = refl

      memory : memory_behind (option_map plain ch.retire) w.memory ≡ memory_behind ch.retire w.memory
      memory = go ch.retire
        where
          go : (o : Option Entry) → memory_behind (option_map plain o) w.memory ≡ memory_behind o w.memory
          go None = refl
          go (Some e) = refl

      pc : pc_behind (option_map plain ch.retire) w.pc ≡ pc_behind ch.retire w.pc
      pc = go ch.retire
        where
          go : (o : Option Entry) → pc_behind (option_map plain o) w.pc ≡ pc_behind o w.pc
          go None = refl
          go (Some e) = refl

      owner : present_owner (option_map plain_presented ch.present) ≡ present_owner ch.present
      owner = go ch.present
        where
          go : (o : Option Presented) → present_owner (option_map plain_presented o) ≡ present_owner o
          go None = refl
          go (Some x) = refl

-- ---- what the core drives

drives-plain : (ch : Choices) → cpu_out (plain_choices ch) ≡ cpu_out ch
drives-plain ch = by ch.offer ch.present ch.kill ch.release
  where
    by : (o : Option Entry) (x : Option Presented) (k r : Option Entry) → cpu_out (record ch { offer = option_map plain o; present = option_map plain_presented x; kill = option_map plain k; release = option_map plain r }) ≡ cpu_out (record ch { offer = o; present = x; kill = k; release = r })
    by o x k r = λ i. record {
      issue_valid = some plain o i;
      issue_hartid = 0;
      issue_id = id o i;
      issue_instr = word o i;
      register_valid = some plain_presented x i;
      register_hartid = 0;
      register_id = presented x i;
      register_rs0 = lane 0 x i;
      register_rs1 = lane 1 x i;
      register_rs2 = lane 2 x i;
      register_rs_valid = flags x i;
      commit_valid = some plain k i || some plain r i;
      commit_hartid = 0;
      commit_id = commit k r i;
      commit_kill = some plain k i;
    }
      where
        some : {A : Type 0} (f : A → A) (o : Option A) → is_some (option_map f o) ≡ is_some o
        some f None = refl
        some f (Some e) = refl

        id : (o : Option Entry) → id_in (option_map plain o) ≡ id_in o
        id None = refl
        id (Some e) = refl

        word : (o : Option Entry) → word_in (option_map plain o) ≡ word_in o
        word None = refl
        word (Some e) = refl

        presented : (x : Option Presented) → presented_id (option_map plain_presented x) ≡ presented_id x
        presented None = refl
        presented (Some y) = refl

        lane : (n : ℕ) (x : Option Presented) → presented_lane n (option_map plain_presented x) ≡ presented_lane n x
        lane n None = refl
        lane n (Some y) = refl

        flags : (x : Option Presented) → presented_flags (option_map plain_presented x) ≡ presented_flags x
        flags None = refl
        flags (Some y) = refl

        commit : (k r : Option Entry) → id_in (option_or (option_map plain k) (option_map plain r)) ≡ id_in (option_or k r)
        commit None r = id r
        commit (Some e) r = refl

driven : (w : Core) → cpu_out (choices (plain_core w)) ≡ cpu_out (choices w)
driven w = ap cpu_out (choices-plain w) ∙ drives-plain (choices w)

pub bus-plain : (hart : ℕ) (w : Core) (cop : CopOut) → bus_with hart (plain_core w) (plain_cop cop) ≡ plain_bus (bus_with hart w cop)
bus-plain hart w cop = ap (λ cpu. join_of (for_hart hart cpu) (plain_cop cop) (core_accepts w cop)) (driven w)

seen-plain : (w : Core) (cop : CopOut) → seen_with (plain_core w) (plain_cop cop) ≡ plain_bus (seen_with w cop)
seen-plain w cop = ap (λ cpu. join_of cpu (for_core (plain_cop cop)) (core_accepts w cop)) (driven w)

pub clock-plain : (answer : (pc word : ℕ) → ℕ) (w : Core) (cop : CopOut) → core_clock answer (plain_core w) (seen_with (plain_core w) (plain_cop cop)) ≡ plain_core (core_clock answer w (seen_with w cop))
clock-plain answer w cop = (λ i. core_after answer (plain_core w) (choices-plain w i) (seen-plain w cop i)) ∙ core-plain answer w (choices w) (seen_with w cop)
