use Rattle.std.proofs.Common.{◌≡◌, false, true, Some, None, sym, ap, ◌∙◌, subst, rules}
use Rattle.std.specs.Prelude.{IsSome}
use Rattle.std.specs.Option.{option_map}
use Rattle.std.specs.FinMap.{get, insert}
use Rattle.xif_base.specs.MemoryShelf.{files_of}
use Rattle.xif_base.proofs.StoredFiles.{files_of-updates, get-files_of, insert-same, appended-at}
use Rattle.xif_base.proofs.file_map.append_to.Goals as goal

pub unreachable-requires : goal.unreachable-requires
unreachable-requires c =
    let none : get (files_of c.args.files.now) c.args.name.now ≡ None =
    get-files_of c.args.files.now c.args.name.now ∙ sym (ap (option_map (λ x. x.items)) c.in-None.ensures.value) in
    let some : false ≡ true = subst IsSome none c.requires in cc

pub returns-in-Err-clause-err : goal.returns-in-Err-clause-err
returns-in-Err-clause-err c =
    let m = c.args.files.now in
    let w = c.extend_from_slice.new.self in
    let some : get (files_of m) c.args.name.now ≡ Some c.in-Some.bytes.now.items =
    get-files_of m c.args.name.now ∙ sym (ap (option_map (λ x. x.items)) c.in-Some.ensures.value) in
    files_of-updates c.args.name.now m (c.get_mut.follows.lender w) w ((c.get_mut.follows.holds w).3 (search rules))
    ∙ ap (insert (files_of m) c.args.name.now) c.in-Err.ensures.items
    ∙ insert-same (files_of m) c.args.name.now c.in-Some.bytes.now.items some

pub returns-in-Ok-clause-ok : goal.returns-in-Ok-clause-ok
returns-in-Ok-clause-ok c =
    let m = c.args.files.now in
    let w = c.extend_from_slice.new.self in
    let some : get (files_of m) c.args.name.now ≡ Some c.in-Some.bytes.now.items =
    get-files_of m c.args.name.now ∙ sym (ap (option_map (λ x. x.items)) c.in-Some.ensures.value) in
    files_of-updates c.args.name.now m (c.get_mut.follows.lender w) w ((c.get_mut.follows.holds w).3 (search rules))
    ∙ ap (insert (files_of m) c.args.name.now) c.in-Ok.ensures.items
    ∙ sym (appended-at (files_of m) c.args.name.now c.in-Some.bytes.now.items c.args.piece.now some)
