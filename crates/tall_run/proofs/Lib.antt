mod Reading
mod Verdicts
mod Closing
mod Evaluating
mod Promising
mod DemoSize
