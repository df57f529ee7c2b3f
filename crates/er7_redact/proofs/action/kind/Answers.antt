use Rattle.er7_redact.specs.Action.{kind, as_action}
use Rattle.er7_redact.proofs.action.kind.Goals as goal

pub returns-in-Keep : goal.returns-in-Keep
unfolding kind as_action
returns-in-Keep c = λ t. rw c.in-Keep.is

pub returns-in-Clear : goal.returns-in-Clear
unfolding kind as_action
returns-in-Clear c = λ t. rw c.in-Clear.is

pub returns-in-Null : goal.returns-in-Null
unfolding kind as_action
returns-in-Null c = λ t. rw c.in-Null.is

pub returns-in-Replace : goal.returns-in-Replace
unfolding kind as_action
returns-in-Replace c = λ t. rw c.in-Replace.is

pub returns-in-Mask : goal.returns-in-Mask
unfolding kind as_action
returns-in-Mask c = λ t. rw c.in-Mask.is

pub returns-in-First : goal.returns-in-First
unfolding kind as_action
returns-in-First c = λ t. rw c.in-First.is

pub returns-in-Last : goal.returns-in-Last
unfolding kind as_action
returns-in-Last c = λ t. rw c.in-Last.is

pub returns-in-Pseudonym : goal.returns-in-Pseudonym
unfolding kind as_action
returns-in-Pseudonym c = λ t. rw c.in-Pseudonym.is

pub returns-in-Shift : goal.returns-in-Shift
unfolding kind as_action
returns-in-Shift c = λ t. rw c.in-Shift.is
