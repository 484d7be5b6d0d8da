use Rattle.serde_json.specs.View.{view}
use Rattle.msg_dict.proofs.Told.{own_value, own_read, own_not_refused}
use Rattle.msg_dict.proofs.own.dict_text.Goals as goal

pub returns-clause-reads_back : goal.returns-clause-reads_back
returns-clause-reads_back c =
    let text = c.in_ok-text.text.items in
    own_read c.args.b.now text
    (own_value c.args.b.now text (view c.in_ok-own_dictionary.field-0) c.in_ok-own_dictionary.ensures c.in_ok-text.ensures.utf8 c.in_ok-text.ensures.reads_back)

pub returns-clause-no_fault : goal.returns-clause-no_fault
returns-clause-no_fault c =
    let text = c.in_ok-text.text.items in
    own_not_refused c.args.b.now text
    (own_value c.args.b.now text (view c.in_ok-own_dictionary.field-0) c.in_ok-own_dictionary.ensures c.in_ok-text.ensures.utf8 c.in_ok-text.ensures.reads_back)
