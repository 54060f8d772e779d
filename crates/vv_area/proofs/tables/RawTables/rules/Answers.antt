use Rattle.std.proofs.Common.{◌∙◌, sym}
use Rattle.std.proofs.lemmas.Result.{err_from_is_err_and}
use Rattle.vv_area.specs.Area.{tables_of}
use Rattle.vv_area.proofs.SharingParts.{shared_where_none}
use Rattle.vv_area.proofs.FaultChain.{To1, To2, To3, To4, To5, To6, To7, To8, fails_1, fails_2, fails_3, fails_4, fails_5, fails_6, fails_7, fails_8, last_decides}
use Rattle.vv_area.proofs.tables.RawTables.rules.Goals as goal

pub returns-in_err-expect : goal.returns-in_err-expect
returns-in_err-expect c =
    let p = err_from_is_err_and c.from_residual-in_err-expect.result c.from_residual-in_err-expect.ensures.1 in
    let h = c.in_err-expect.ensures in
    rw (p.1, p.2, h.1) (fails_1 (tables_of c.args.self.now) (sym c.in_ok-numbers_hold.ensures ∙ h.0))

pub returns-in_err-expect-2 : goal.returns-in_err-expect-2
returns-in_err-expect-2 c =
    let p = err_from_is_err_and c.from_residual-in_err-expect-2.result c.from_residual-in_err-expect-2.ensures.1 in
    let h = c.in_err-expect-2.ensures in
    let kept : To1 (tables_of c.args.self.now) =
    record { numbers = sym c.in_ok-numbers_hold.ensures ∙ c.in_ok-expect.ensures }
    in
    rw (p.1, p.2, h.1) (fails_2 (tables_of c.args.self.now) kept (sym c.in_ok-names_hold.ensures ∙ h.0))

pub returns-in_err-expect-3 : goal.returns-in_err-expect-3
returns-in_err-expect-3 c =
    let p = err_from_is_err_and c.from_residual-in_err-expect-3.result c.from_residual-in_err-expect-3.ensures.1 in
    let h = c.in_err-expect-3.ensures in
    let kept : To2 (tables_of c.args.self.now) =
    record { before = record { numbers = sym c.in_ok-numbers_hold.ensures ∙ c.in_ok-expect.ensures }; names = sym c.in_ok-names_hold.ensures ∙ c.in_ok-expect-2.ensures }
    in
    rw (p.1, p.2, h.1) (fails_3 (tables_of c.args.self.now) kept (sym c.in_ok-limits_hold.ensures ∙ h.0))

pub returns-in_err-expect-4 : goal.returns-in_err-expect-4
returns-in_err-expect-4 c =
    let p = err_from_is_err_and c.from_residual-in_err-expect-4.result c.from_residual-in_err-expect-4.ensures.1 in
    let h = c.in_err-expect-4.ensures in
    let kept : To3 (tables_of c.args.self.now) =
    record { before = record { before = record { numbers = sym c.in_ok-numbers_hold.ensures ∙ c.in_ok-expect.ensures }; names = sym c.in_ok-names_hold.ensures ∙ c.in_ok-expect-2.ensures }; limits = sym c.in_ok-limits_hold.ensures ∙ c.in_ok-expect-3.ensures }
    in
    rw (p.1, p.2, h.1) (fails_4 (tables_of c.args.self.now) kept (sym c.sizes_hold.ensures ∙ h.0))

pub returns-in_err-expect-5 : goal.returns-in_err-expect-5
returns-in_err-expect-5 c =
    let p = err_from_is_err_and c.from_residual-in_err-expect-5.result c.from_residual-in_err-expect-5.ensures.1 in
    let h = c.in_err-expect-5.ensures in
    let kept : To4 (tables_of c.args.self.now) =
    record { before = record { before = record { before = record { numbers = sym c.in_ok-numbers_hold.ensures ∙ c.in_ok-expect.ensures }; names = sym c.in_ok-names_hold.ensures ∙ c.in_ok-expect-2.ensures }; limits = sym c.in_ok-limits_hold.ensures ∙ c.in_ok-expect-3.ensures }; sizes = sym c.sizes_hold.ensures ∙ c.in_ok-expect-4.ensures }
    in
    rw (p.1, p.2, h.1) (fails_5 (tables_of c.args.self.now) kept (sym c.in_ok-space_holds.ensures ∙ h.0))

pub returns-in_err-expect_none : goal.returns-in_err-expect_none
returns-in_err-expect_none c =
    let p = err_from_is_err_and c.from_residual-in_err-expect_none.result c.from_residual-in_err-expect_none.ensures.1 in
    let h = c.in_err-expect_none.ensures in
    let kept : To5 (tables_of c.args.self.now) =
    record { before = record { before = record { before = record { before = record { numbers = sym c.in_ok-numbers_hold.ensures ∙ c.in_ok-expect.ensures }; names = sym c.in_ok-names_hold.ensures ∙ c.in_ok-expect-2.ensures }; limits = sym c.in_ok-limits_hold.ensures ∙ c.in_ok-expect-3.ensures }; sizes = sym c.sizes_hold.ensures ∙ c.in_ok-expect-4.ensures }; space = sym c.in_ok-space_holds.ensures ∙ c.in_ok-expect-5.ensures }
    in
    rw (p.1, p.2, h.2) (fails_6 (tables_of c.args.self.now) kept h.0 (sym c.in_ok-sharing_fault.ensures ∙ h.1) h.3)

pub returns-in_err-expect-6 : goal.returns-in_err-expect-6
returns-in_err-expect-6 c =
    let p = err_from_is_err_and c.from_residual-in_err-expect-6.result c.from_residual-in_err-expect-6.ensures.1 in
    let h = c.in_err-expect-6.ensures in
    let kept : To6 (tables_of c.args.self.now) =
    record { before = record { before = record { before = record { before = record { before = record { numbers = sym c.in_ok-numbers_hold.ensures ∙ c.in_ok-expect.ensures }; names = sym c.in_ok-names_hold.ensures ∙ c.in_ok-expect-2.ensures }; limits = sym c.in_ok-limits_hold.ensures ∙ c.in_ok-expect-3.ensures }; sizes = sym c.sizes_hold.ensures ∙ c.in_ok-expect-4.ensures }; space = sym c.in_ok-space_holds.ensures ∙ c.in_ok-expect-5.ensures }; shared = shared_where_none (tables_of c.args.self.now) (sym c.in_ok-sharing_fault.ensures ∙ c.in_ok-expect_none.ensures) }
    in
    rw (p.1, p.2, h.1) (fails_7 (tables_of c.args.self.now) kept (sym c.in_ok-bindings_hold.ensures ∙ h.0))

pub returns-in_err-expect-7 : goal.returns-in_err-expect-7
returns-in_err-expect-7 c =
    let p = err_from_is_err_and c.from_residual-in_err-expect-7.result c.from_residual-in_err-expect-7.ensures.1 in
    let h = c.in_err-expect-7.ensures in
    let kept : To7 (tables_of c.args.self.now) =
    record { before = record { before = record { before = record { before = record { before = record { before = record { numbers = sym c.in_ok-numbers_hold.ensures ∙ c.in_ok-expect.ensures }; names = sym c.in_ok-names_hold.ensures ∙ c.in_ok-expect-2.ensures }; limits = sym c.in_ok-limits_hold.ensures ∙ c.in_ok-expect-3.ensures }; sizes = sym c.sizes_hold.ensures ∙ c.in_ok-expect-4.ensures }; space = sym c.in_ok-space_holds.ensures ∙ c.in_ok-expect-5.ensures }; shared = shared_where_none (tables_of c.args.self.now) (sym c.in_ok-sharing_fault.ensures ∙ c.in_ok-expect_none.ensures) }; bindings = sym c.in_ok-bindings_hold.ensures ∙ c.in_ok-expect-6.ensures }
    in
    rw (p.1, p.2, h.1) (fails_8 (tables_of c.args.self.now) kept (sym c.in_ok-clones_hold.ensures ∙ h.0))

pub returns : goal.returns
returns c =
    let kept : To8 (tables_of c.args.self.now) =
    record { before = record { before = record { before = record { before = record { before = record { before = record { before = record { numbers = sym c.in_ok-numbers_hold.ensures ∙ c.in_ok-expect.ensures }; names = sym c.in_ok-names_hold.ensures ∙ c.in_ok-expect-2.ensures }; limits = sym c.in_ok-limits_hold.ensures ∙ c.in_ok-expect-3.ensures }; sizes = sym c.sizes_hold.ensures ∙ c.in_ok-expect-4.ensures }; space = sym c.in_ok-space_holds.ensures ∙ c.in_ok-expect-5.ensures }; shared = shared_where_none (tables_of c.args.self.now) (sym c.in_ok-sharing_fault.ensures ∙ c.in_ok-expect_none.ensures) }; bindings = sym c.in_ok-bindings_hold.ensures ∙ c.in_ok-expect-6.ensures }; clones = sym c.in_ok-clones_hold.ensures ∙ c.in_ok-expect-7.ensures }
    in
    last_decides (tables_of c.args.self.now) kept c.in_ok-copies_hold.field-0 c.in_ok-copies_hold.ensures c.expect-8.result c.expect-8.ensures
