use Rattle.std.proofs.Common.{◌≡◌, ◌∙◌, ap, sym, List, ◌++◌, []}
use Rattle.vv_units.specs.declared.numbers.EndpointId.{EndpointId}
use Rattle.vv_fields.specs.Fields.{be_bytes}
use Rattle.vv_bind.specs.Table.{numbers}
use Rattle.vv_record.specs.Spelling.{endpoints_spelling}
use Rattle.vv_area.specs.Spelling.{as_endpoints}
use Rattle.vv_spell.specs.Window.{seen, behind}
use Rattle.vv_spell.proofs.WindowLemmas.{put_two, put_end}
use Rattle.vv_spell.proofs.HostContexts.{as_they_are}
use Rattle.vv_spell.proofs.contexts.put_context.Goals as goal

pub returns : goal.returns
returns c =
    let s = seen c.args.window.now c.args.into.now in
    let t = seen c.put_number.new.self c.put_number.new.into in
    let u = seen c.put_endpoints.new.window c.put_endpoints.new.into in
    let listed : u ≡ behind t (endpoints_spelling (as_endpoints (numbers c.args.endpoints.now))) =
    c.put_endpoints.ensures ∙ ap (λ (es : List EndpointId). behind t (endpoints_spelling es)) (sym (as_they_are c.args.endpoints.now)) in
    put_two s t u (be_bytes 4 c.args.host.0) (endpoints_spelling (as_endpoints (numbers c.args.endpoints.now)) ++ []) c.put_number.ensures
    (put_end t u (endpoints_spelling (as_endpoints (numbers c.args.endpoints.now))) listed)
