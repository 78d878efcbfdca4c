use Rattle.std.proofs.Common.{◌≡◌, inl, inr, false, Ok, Err, map, string_bytes, subst, ap, sym, ◌∙◌}
use Rattle.xif_base.specs.Faults.{OnlyReads}
use Rattle.xif_cli.specs.declared.answer.End.TheVariants.{Done}
use Rattle.xif_cli.specs.Ending.{Means, is_built, has_targets}
use Rattle.xif_cli.specs.Outcome.{Lookup, Answer, command_outcome, found}
use Rattle.xif_cli.specs.Words as form
use Rattle.xif_cli.specs.Words.{Form, IsCommand, form_of}
use Rattle.xif_cli.proofs.Concluding.{done_so, broken_so}
use Rattle.xif_cli.proofs.Forms.{one_form}
use Rattle.xif_cli.proofs.Summing.{prints-the-sum}
use Rattle.xif_cli.proofs.program.xif.Goals as goal

pub returns-clause-output_is_defined : goal.returns-clause-output_is_defined
returns-clause-output_is_defined g c = λ end is m told.
    done_so (λ answer meant. (form_of c.in-Some.command, (c.in-Some.ensures.found, meant))) (c.perform.ensures.concludes.output end is m told)

pub returns-clause-prefix_is_written : goal.returns-clause-prefix_is_written
returns-clause-prefix_is_written g c = λ w is m told.
    broken_so (λ answer meant. (form_of c.in-Some.command, (c.in-Some.ensures.found, meant))) (c.perform.ensures.concludes.prefix w is m told)

pub returns-clause-after_no_memory : goal.returns-clause-after_no_memory
returns-clause-after_no_memory g c = λ none m told. elim (c.perform.ensures.concludes.no_memory none m told) [
  | inl same ↦ inl same
  | inr broken ↦ inr (broken.0, broken_so (λ answer meant. (form_of c.in-Some.command, (c.in-Some.ensures.found, meant))) broken.1)
]

pub returns-clause-read_fault_has_cause : goal.returns-clause-read_fault_has_cause
returns-clause-read_fault_has_cause g c = λ w is. elim (c.perform.ensures.concludes.read_fault w is) [
  | inl faulted ↦ inl faulted
  | inr meant ↦ inr (meant.0, (meant.1.0, (form_of c.in-Some.command, (c.in-Some.ensures.found, meant.1.1))))
]

pub returns-clause-completes_as_defined : goal.returns-clause-completes_as_defined
returns-clause-completes_as_defined g c = λ m told answer means.
    let form = form_of c.in-Some.command in
    let same : means.0 ≡ form = one_form (map string_bytes c.args.words.now) means.0 form means.1.0 c.in-Some.ensures.found in
    c.perform.ensures.concludes.completes m told answer (subst (λ f. command_outcome f (found m) ≡ Ok answer) same means.1.1)

pub returns-clause-refuses_as_defined : goal.returns-clause-refuses_as_defined
returns-clause-refuses_as_defined g c = λ m told status means.
    let form = form_of c.in-Some.command in
    let same : means.0 ≡ form = one_form (map string_bytes c.args.words.now) means.0 form means.1.0 c.in-Some.ensures.found in
    c.perform.ensures.concludes.refuses m told status (subst (λ f. command_outcome f (found m) ≡ Err status) same means.1.1)

pub returns-clause-unbuilt_reads_nothing : goal.returns-clause-unbuilt_reads_nothing
returns-clause-unbuilt_reads_nothing g c = λ form is unbuilt.
    let same : form ≡ form_of c.in-Some.command = one_form (map string_bytes c.args.words.now) form (form_of c.in-Some.command) is c.in-Some.ensures.found in
    c.perform.ensures.unbuilt (subst (λ f. is_built f ≡ false) same unbuilt)

pub returns-clause-others_only_read : goal.returns-clause-others_only_read
returns-clause-others_only_read g c = λ form is none.
    let same : form ≡ form_of c.in-Some.command = one_form (map string_bytes c.args.words.now) form (form_of c.in-Some.command) is c.in-Some.ensures.found in
    c.perform.ensures.only_reads (subst (λ f. has_targets f ≡ false) same none)

pub returns-clause-run_is_faithful : goal.returns-clause-run_is_faithful
returns-clause-run_is_faithful g c = λ job is done m told.
    let same : form.Run job ≡ form_of c.in-Some.command = one_form (map string_bytes c.args.words.now) (form.Run job) (form_of c.in-Some.command) is c.in-Some.ensures.found in
    c.perform.ensures.faithful job (sym same) done m told

pub returns-clause-gen_prints_the_sum : goal.returns-clause-gen_prints_the_sum
returns-clause-gen_prints_the_sum g c = λ seed count is done m told.
    let same : form.Gen seed count ≡ form_of c.in-Some.command = one_form (map string_bytes c.args.words.now) (form.Gen seed count) (form_of c.in-Some.command) is c.in-Some.ensures.found in
    done_so (λ answer meant. prints-the-sum seed count (found m) answer is.in_range (ap (λ f. command_outcome f (found m)) same ∙ meant))
    (c.perform.ensures.concludes.output Done done m told)
